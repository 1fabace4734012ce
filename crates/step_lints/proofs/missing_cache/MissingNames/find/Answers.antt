use Rattle.std.proofs.Common.{sym, ◌∙◌}
use Rattle.step_lints.proofs.LacksLemmas.{none_has}
use Rattle.step_lints.proofs.missing_cache.MissingNames.find.Goals as goal

pub returns-else-has : goal.returns-else-has
returns-else-has c =
    let self = c.args.self.now in
    let name = c.args.name.now in
    c.facts_of_none.ensures ∙ none_has self.vars.now self.waiting.now name (self.all name (sym c.has.ensures ∙ c.if-has.false))
