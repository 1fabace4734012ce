-- Notes on the elements of a list, one behind the other.
use Rattle.std.proofs.Common.{◌≡◌, ℕ, ◌+◌, ◌<◌, List, ◌∷◌, ◌++◌, length}
use Rattle.std.proofs.Common.{drop, drop-cons, add-one, get_or, sym, ap, ◌∙◌, append_assoc}
use Rattle.lint_rules.specs.Notes.{Note}
use Rattle.lint_command.specs.Playbooks.{all_noted}

module _ {X : Type 0} (noted : ℕ → X → List Note) (xs : List X) (place : ℕ) where
  -- one more element is done
  pub noted_more : (x : X) (before after whole : List Note) → place < length xs → x ≡ get_or xs place x → before ++ all_noted noted place (drop place xs) ≡ whole
      → after ≡ before ++ noted place x → after ++ all_noted noted (place + 1) (drop (place + 1) xs) ≡ whole
  noted_more x before after whole within is so_far now =
      let rest = all_noted noted (place + 1) (drop (place + 1) xs) in
      let parts : drop place xs ≡ x ∷ drop (place + 1) xs =
      drop-cons xs place x within ∙ ap (λ n. get_or xs place x ∷ drop n xs) (sym (add-one place)) ∙ ap (λ y. y ∷ drop (place + 1) xs) (sym is) in
      ap (λ (l : List Note). l ++ rest) now ∙ append_assoc before (noted place x) rest ∙ ap (λ (l : List X). before ++ all_noted noted place l) (sym parts) ∙ so_far
