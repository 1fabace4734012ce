use Rattle.std.proofs.lemmas.Result.{err_from_is_err_and}
use Rattle.command_preview.proofs.Telling.{nothing_written}
use Rattle.command_preview.proofs.hosts.write_step.Goals as goal

pub returns-in_err-told : goal.returns-in_err-told
returns-in_err-told g c =
    let p = err_from_is_err_and c.from_residual.result c.from_residual.ensures.1 in rw p.1 (nothing_written _ c.args.text.now _)
