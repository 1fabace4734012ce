use Rattle.std.proofs.Common.{◌-◌, ℕ, List, length, take, sym, ap, ◌∙◌}
use Rattle.std.specs.Prelude.{if◌then◌else◌}
use Rattle.expectations.specs.Lists.{with_name}
use Rattle.expectations.specs.declared.expectation.Relation.TheVariants.{AtMost, Equal}
use Rattle.expectations.proofs.UnmetLemmas.{not_below}
use Rattle.expectations.proofs.reading.with_front.Goals as goal

pub returns-in-None : goal.returns-in-None
unfolding lib.Utf8.encode
returns-in-None c =
    let front : List ℕ = c.args.front.now in
    let number = c.args.number in
    c.with_name-in-None.ensures
    ∙ sym (ap (λ b. if b then with_name (take (length front - 1) front) AtMost number else with_name front Equal number) (not_below front (λ f e. c.in-None.ensures.cases f e)))
