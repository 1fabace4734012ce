use Rattle.std.proofs.Common.{ap, ◌∙◌, subst}
use Rattle.roll_run.specs.Inside.{HasGone}
use Rattle.roll_run.proofs.Ending.{is_broken, is_run}
use Rattle.roll_run.proofs.opening.leave.Goals as goal

pub returns-in-Ok-clause-ok : goal.returns-in-Ok-clause-ok
returns-in-Ok-clause-ok g c =
    let left = c.finish-left.ensures in
    let gone = subst (HasGone c.args.boundaries.items c.args.board.kernel) c.in-Ok.is c.requires in
    is_run (g.R.Runner.may c.args.board.context.runner) c.args.board.kernel _ left.legal left.safe left.rests left.told left.statuses left.vars left.counts gone

pub returns-in-Err-clause-err : goal.returns-in-Err-clause-err
returns-in-Err-clause-err g c =
    let left = c.finish-left.ensures in
    let gone = subst (HasGone c.args.boundaries.items c.args.board.kernel) c.in-Err.is c.requires in
    is_broken (g.R.Runner.may c.args.board.context.runner) c.args.board.kernel _ c.log.result.now c.log.ensures.value left.legal left.safe left.rests left.told left.statuses left.counts c.count_opened-opened.ensures gone.0 gone.1
