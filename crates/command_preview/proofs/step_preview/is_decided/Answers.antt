use Rattle.std.proofs.Common.{◌≡◌, ◌||◌, Bool, true, false, not, cond, Bor, Option, Some, None, is_some, List, [], ◌∷◌, refl, sym, ap, ◌∙◌}
use Rattle.std.specs.Prelude.{option_map}
use Rattle.std.specs.List.{find, list_any}
use Rattle.group_tree.specs.Names.{Name}
use Rattle.cond.specs.Mentions.{names_of}
use Rattle.command_preview.specs.Previews.{is_decided}
use Rattle.command_preview.specs.Inside.{is_unsure_to}
use Rattle.command_preview.proofs.step_preview.is_decided.Goals as goal

found_by : (b : Bool) (name : Name) (rest : Option Name) (any : Bool) → is_some rest ≡ any → is_some (cond b (Some name) rest) ≡ (b || any)
found_by true name rest any same = refl
found_by false name rest any same = same

found_any : (test : Name → Bool) (names : List Name) → is_some (find test names) ≡ list_any test names
found_any test [] = refl
found_any test (name ∷ names) = found_by (test name) name (find test names) (list_any test names) (found_any test names)

lent_some : (lent : Option (Bor Name)) → is_some (option_map (λ (name : Bor Name). name.now) lent) ≡ is_some lent
lent_some None = refl
lent_some (Some name) = refl

none_if : (a b : Bool) → a ≡ not b → b ≡ not a
none_if true true is = absurd (cc)
none_if true false is = refl
none_if false true is = refl
none_if false false is = absurd (cc)

pub returns-in-Some : goal.returns-in-Some
returns-in-Some c =
    let unsure = is_unsure_to c.args.foreseen.now in
    let names = names_of c.in-Some.condition in
    let none : c.is_none.result ≡ not (is_some c.first_mentioned.result) = none_if (is_some c.first_mentioned.result) c.is_none.result c.is_none.ensures in
    let any : is_some c.first_mentioned.result ≡ list_any unsure names = sym (lent_some c.first_mentioned.result) ∙ ap is_some c.first_mentioned.ensures ∙ found_any unsure names in
    none ∙ ap not any ∙ sym (ap (is_decided unsure) c.in-Some.is)
