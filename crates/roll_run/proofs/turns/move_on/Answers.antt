use Rattle.std.proofs.Common.{List, sym, subst}
use Rattle.play_forecast.specs.declared.boundary.Boundary.{Boundary}
use Rattle.roll_run.specs.Inside.{IsBroken, IsOnCourse}
use Rattle.roll_run.specs.declared.fault.Break.TheVariants.{Fault}
use Rattle.fork_pool.specs.declared.fault.StepFault.TheVariants.{Mem}
use Rattle.roll_run.proofs.Ending.{broken_between, last_between}
use Rattle.roll_run.proofs.Keeping.{turn_further}
use Rattle.roll_run.proofs.turns.move_on.Goals as goal

pub returns-in-Err-clause-turned : goal.returns-in-Err-clause-turned
returns-in-Err-clause-turned g c =
    let more = c.come_to_boundary.ensures.grown in
    let new = c.come_to_boundary.new.board.kernel in
    let on = broken_between c.args.board.kernel new c.args.boundaries.now.items c.args.before more.more c.requires.between more.begun more.kernel in
    let last = last_between c.args.board.kernel new c.args.boundaries.now.items c.args.before more.more c.requires.between more.begun more.kernel in
    let broken : IsBroken c.args.boundaries.now.items new (Fault Mem) = record { why_is = tt; asked = tt; last = last } in
    subst (λ (l : List Boundary). IsOnCourse new l × IsBroken l new (Fault Mem)) (sym c.in-Err.ensures.err) (on, broken)

pub returns-in-Ok-clause-kept : goal.returns-in-Ok-clause-kept
returns-in-Ok-clause-kept g c =
    turn_further g.K.Recorder.keeps c.args.board.kernel c.come_to_boundary.new.board.kernel c.pass.result.1.kernel c.args.keeper.now c.come_to_boundary.new.keeper c.pass.new.keeper c.pass.result.0 c.come_to_boundary.ensures.kept c.pass.ensures.kept
