use Rattle.std.proofs.Common.{◌≡◌, ◌++◌, ◌+◌, ◌∷◌, [], ℕ, List, Option, None, Some, ap, length, map, option_map, refl, string_bytes, sym, ◌∙◌, arith}
use Rattle.std.proofs.lemmas.List.{map-append}
use Rattle.std.specs.List.{last_or}
use Rattle.std.specs.Prelude.{MatchOption, option_to_list}
use Rattle.command_line.proofs.option_match.last_of.Goals as goal

-- the last of a list is what stands behind the others
last_is : {A : Type 0} (o : Option A) (xs : List A) (x : A) → last_or o (xs ++ x ∷ []) ≡ Some x
last_is o [] x = refl
last_is o (y ∷ ys) x = last_is (Some y) ys x

popped : {X Y : Type 0} (f : X → Y) (old new : List X) (long left : ℕ) (found : Option X) → MatchOption found ((long ≡ 0) × (left ≡ 0)) (λ _. left + 1 ≡ long)
    → long ≡ length old → old ≡ new ++ option_to_list found → option_map f found ≡ last_or None (map f old)
popped f [] new long left None none lent is = refl
popped f (x ∷ xs) new long left None none lent is = absurd (omega (arith, none.0, lent))
popped f old new long left (Some x) some lent is = sym (ap (λ l. last_or None (map f l)) is ∙ ap (last_or None) (map-append f new (x ∷ [])) ∙ last_is None (map f new) (f x))

pub returns : goal.returns
returns c =
    popped string_bytes c.args.values.items c.pop.new.self.items _ _ c.pop.result c.pop.ensures.cases (omega (arith, c.args.values.ok)) c.pop.ensures.items
