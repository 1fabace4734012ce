use Rattle.std.proofs.Common.{sym, ◌∙◌}
use Rattle.lint_command.proofs.BatchLemmas.{none_asked, where_asked}
use Rattle.lint_command.proofs.batches.smallest_of.Goals as goal

pub returns-in-Some : goal.returns-in-Some
returns-in-Some c = where_asked c.args.fleet.now c.args.play.now c.smallest_in_plan.result c.smallest_in_plan.ensures

pub returns-in-None : goal.returns-in-None
returns-in-None c = none_asked c.args.fleet.now c.args.play.now (sym c.max_fail.ensures ∙ c.in-None.is)
