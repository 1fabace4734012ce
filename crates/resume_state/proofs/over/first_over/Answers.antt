use Rattle.std.proofs.Common.{arith}
use Rattle.resume_state.proofs.OverLemmas.{none_over}
use Rattle.resume_state.proofs.over.first_over.Goals as goal

pub returns-clause-none : goal.returns-clause-none
returns-clause-none c =
    none_over c.args.fleet.now c.args.statuses.now (λ group l. c.loop-index.invariant group
    (omega (arith, l, c.groups-index-end.ensures.count, c.loop-index.auto.index-end, c.loop-index-test.false)))
