use Rattle.event_log.specs.Works.{is_awaited_in}
use Rattle.roll_core.specs.Views.{roll_of, state_of}
use Rattle.roll_run.proofs.Passing.{none_yet, passes_step, still_working, works_on}
use Rattle.roll_run.proofs.Turning.{nobody_busy, step_says}
use Rattle.roll_run.proofs.batch.pass_step.Goals as goal

pub barrier-requires-after_bounds : goal.barrier-requires-after_bounds
barrier-requires-after_bounds g c κs within = still_working c.args.board c.in-Ok.board c.in-Ok.ensures.continues c.requires.working

pub returns-in-Ok-barrier-clause-ok : goal.returns-in-Ok-barrier-clause-ok
returns-in-Ok-barrier-clause-ok g c =
    passes_step c.args.board c.in-Ok.board c.barrier.new.self c.in-Ok-barrier.next c.in-Ok.ensures.continues c.in-Ok.ensures.rest.tallies c.in-Ok-barrier.ensures.ok c.barrier.ensures.rest

pub unreachable-requires : goal.unreachable-requires
unreachable-requires g c =
    let kernel = c.in-Ok.board.kernel in
    nobody_busy (is_awaited_in (roll_of kernel) (state_of kernel)) (state_of kernel).batch _ c.in-Ok.ensures.done.reported c.in-Err-barrier.ensures.err

pub returns-in-Err-clause-err : goal.returns-in-Err-clause-err
returns-in-Err-clause-err g c = works_on c.args.board c.args.board c.in-Err.refused.1 (none_yet c.args.board) c.in-Err.ensures.continues

pub returns-in-Err-clause-why : goal.returns-in-Err-clause-why
returns-in-Err-clause-why g c = step_says c.args.front.now.forks c.in-Err.refused.1 c.in-Err.refused.0 c.in-Err.ensures.fault
