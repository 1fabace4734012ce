use Rattle.std.proofs.Common.{ap, ◌∙◌}
use Rattle.roll_core.specs.Views.{KernelView, state_of}
use Rattle.roll_run.proofs.Passing.{at_its_end, at_its_halt, at_work, works_further}
use Rattle.roll_run.proofs.batch.pass_steps.Goals as goal

pub loop-preserved : goal.loop-preserved
loop-preserved g c =
    let was = c.loop.invariant in
    let passed = c.in-Ok-Step-default.ensures.ok in
    record {
      worked = works_further c.args.board c.loop.board c.in-Ok-Step-default.after was.worked passed.worked;
      working = at_work c.in-Ok-Step-default.field-0-0 (state_of c.in-Ok-Step-default.after.kernel).phase c.in-Ok-Step-default.field-0-0-is passed.goes;
      tallies = passed.tallies;
      same = ap (λ (k : KernelView). k.forks) passed.worked.kernel ∙ was.same;
      forks = c.pass_step.ensures.forks ∙ was.forks;
    }

pub returns-in-Ok-BatchEnd-default-clause-ok : goal.returns-in-Ok-BatchEnd-default-clause-ok
returns-in-Ok-BatchEnd-default-clause-ok g c =
    let passed = c.in-Ok-BatchEnd-default.ensures.ok in
    record {
      worked = works_further c.args.board c.loop.board c.in-Ok-BatchEnd-default.after c.loop.invariant.worked passed.worked;
      over = at_its_end c.in-Ok-BatchEnd-default.field-0-0 (state_of c.in-Ok-BatchEnd-default.after.kernel).phase c.in-Ok-BatchEnd-default.field-0-0-is passed.goes;
      tallies = passed.tallies;
    }

pub returns-in-Ok-Halt-default-clause-ok : goal.returns-in-Ok-Halt-default-clause-ok
returns-in-Ok-Halt-default-clause-ok g c =
    let passed = c.in-Ok-Halt-default.ensures.ok in
    record {
      worked = works_further c.args.board c.loop.board c.in-Ok-Halt-default.after c.loop.invariant.worked passed.worked;
      over = at_its_halt c.in-Ok-Halt-default.field-0-0 (state_of c.in-Ok-Halt-default.after.kernel).phase c.in-Ok-Halt-default.field-0-0-is passed.goes;
      tallies = passed.tallies;
    }

pub returns-in-Err-clause-err : goal.returns-in-Err-clause-err
returns-in-Err-clause-err g c = works_further c.args.board c.loop.board c.in-Err.refused.1 c.loop.invariant.worked c.in-Err.ensures.err
