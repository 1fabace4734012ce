use Rattle.std.proofs.Common.{◌∙◌}
use Rattle.command_line.proofs.ForksLemmas.{forks_read, forks_unread}
use Rattle.command_line.proofs.forks.Forks.read.Goals as goal

pub returns-in-Ok : goal.returns-in-Ok
returns-in-Ok c = c.new.ensures ∙ forks_read c.args.text.now c.in-Ok.number c.in-Ok.ensures.value.0.0.0 c.in-Ok.ensures.value.0.1

pub returns-in-Err : goal.returns-in-Err
returns-in-Err c = forks_unread c.args.text.now c.in-Err.ensures.value.0
