-- Bytes that are written one by one.
use Rattle.std.proofs.Common.{◌≡◌, ℕ, List, [], ◌∷◌, map, flat_map, ap, refl}

pub one_by_one : (f : ℕ → ℕ) (xs : List ℕ) → flat_map (λ x. f x ∷ []) xs ≡ map f xs
one_by_one f [] = refl
one_by_one f (x ∷ xs) = ap (λ rest. f x ∷ rest) (one_by_one f xs)
