-- What is the same for all hosts.
use Rattle.std.proofs.Common.{◌≡◌, ◌&&◌, ◌||◌, not, Bool, Bor, Option, None, Some, false, true, is_some, option_map, refl, sym, ap, ◌∙◌}
use Rattle.group_tree.specs.Names.{Name}

flipped : (some none : Bool) → some ≡ not none → none ≡ not some
flipped some true is = sym (ap not is)
flipped some false is = sym (ap not is)

kept_some : (word : Option (Bor Name)) → is_some word ≡ is_some (option_map (λ (word : Bor Name). word.now) word)
kept_some None = refl
kept_some (Some word) = refl

pub settled : (named asked none : Bool) (word : Option (Bor Name)) (found : Option Name) → named ≡ false → asked ≡ false → is_some word ≡ not none → option_map (λ (word : Bor Name). word.now) word ≡ found
    → none ≡ (not (named || asked) && not (is_some found))
settled named asked none word found named_not asked_not is_none is =
    flipped (is_some word) none is_none ∙ ap not (kept_some word) ∙ ap (λ (o : Option Name). not (is_some o)) is
    ∙ sym (ap (λ b. not (b || asked) && not (is_some found)) named_not ∙ ap (λ b. not b && not (is_some found)) asked_not)
