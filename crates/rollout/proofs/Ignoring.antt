-- Whether a text says that children are ignored, place by place.
use Rattle.std.proofs.Common.{◌≡◌, ◌<◌, ◌≤◌, ◌+◌, ◌-◌, ◌||◌, ℕ, zero, suc, true, false, List, [], ◌∷◌, drop, take, length, length-drop, refl, sym, ap, ◌∙◌, arith}
use Rattle.std.proofs.lemmas.List.{take_all}
use Rattle.std.proofs.Math.Seq.{drop-cons}
use Rattle.rollout.specs.Children.{starts_ignored, says_ignored}

-- the text from a place on
pub tail_is : (text : List ℕ) (i : ℕ) → take (length text - i) (drop i text) ≡ drop i text
tail_is text i = take_all (length text - i) (drop i text) (omega (arith, length-drop i text))

from : (text : List ℕ) (i : ℕ) → i < length text → says_ignored (drop i text) ≡ (starts_ignored (drop i text) || says_ignored (drop (i + 1) text))
from text i within =
    let next : suc i ≡ i + 1 = omega arith in
    let at = drop-cons text i 0 within in
    ap says_ignored at ∙ ap (λ l. starts_ignored l || says_ignored (drop (suc i) text)) (sym at)
    ∙ ap (λ k. starts_ignored (drop i text) || says_ignored (drop k text)) next

pub says_here : (text : List ℕ) (i : ℕ) → i < length text → starts_ignored (drop i text) ≡ true → true ≡ says_ignored (drop i text)
says_here text i within begins = sym (from text i within ∙ ap (λ b. b || says_ignored (drop (i + 1) text)) begins)

pub says_on : (text : List ℕ) (i : ℕ) → i < length text → starts_ignored (drop i text) ≡ false → says_ignored (drop (i + 1) text) ≡ says_ignored (drop i text)
says_on text i within begins = sym (from text i within ∙ ap (λ b. b || says_ignored (drop (i + 1) text)) begins)

none_left : (text : List ℕ) (i : ℕ) → length text ≤ i → drop i text ≡ []
none_left [] zero past = refl
none_left [] (suc i) past = refl
none_left (b ∷ text) zero past = absurd (omega (arith, past))
none_left (b ∷ text) (suc i) past = none_left text i (omega (arith, past))

pub says_nothing : (text : List ℕ) (i : ℕ) → length text ≤ i → false ≡ says_ignored (drop i text)
says_nothing text i past = sym (ap says_ignored (none_left text i past))
