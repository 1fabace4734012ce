use Rattle.std.proofs.Common.{refl}
use Rattle.fork_pool.proofs.Continuing.{by_answer}
use Rattle.fork_pool.proofs.UnderWay.{entered_by_answer, kept_by_reporting}
use Rattle.fork_pool.proofs.step.Step.report.Goals as goal

pub invariant_of-self : goal.invariant_of-self
invariant_of-self g c =
    record {
      under_way = kept_by_reporting c.report.result _ _ _ c.args.done.completion c.nobody_is_out_twice.ensures c.report.ensures.ok c.report.ensures.allowed c.report.ensures.unchanged c.requires c.args.self.now.under_way;
    }

pub returns-clause-board : goal.returns-clause-board
returns-clause-board g c = by_answer _ _ _ _ refl c.report.ensures.ok c.report.ensures.unchanged

pub returns-clause-entered : goal.returns-clause-entered
returns-clause-entered g c =
    entered_by_answer g.R.Runner.alike c.report.result _ _ _ c.nobody_is_out_twice.ensures c.report.ensures.ok c.report.ensures.allowed c.report.ensures.err c.report.ensures.unchanged
