use Rattle.std.proofs.Common.{◌<◌, ◌+◌, ◌^◌, sym, ap, ◌∙◌, subst}
use Rattle.std.specs.Prelude.{IfSome}
use Rattle.event_log.specs.Logs.{IsLegal}
use Rattle.event_log.specs.States.{start_state}
use Rattle.roll_core.specs.Views.{roll_of}
use Rattle.roll_core.specs.Boards.{BoardView}
use Rattle.roll_core.specs.Tellings.{halt_in}
use Rattle.roll_run.proofs.Turning.{halts_early}
use Rattle.roll_run.proofs.close.close_batch.Goals as goal

pub end_with-requires : goal.end_with-requires
end_with-requires g c =
    let legal = subst (λ (b : BoardView g.row.R.Denot). IsLegal (roll_of b.kernel) (start_state (roll_of b.kernel)) b.kernel.log) c.close.ensures.event c.close.ensures.legal in
    subst (λ h. IfSome h (λ step. step + 1 < 2 ^ 64)) (sym (c.halt_of-halt.ensures ∙ ap halt_in c.stage.ensures)) (halts_early c.args.board.now.kernel legal c.requires.over)
