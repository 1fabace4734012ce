-- What of a read is heard.
use Rattle.std.proofs.Common.{◌≡◌, ℕ, ◌+◌, ◌<◌, ◌≤◌, List, [], ◌∷◌, ◌++◌, length, take, drop, get_or, sym, ap, ◌∙◌, arith}
use Rattle.std.proofs.lemmas.List.{take-append-drop, take-take, take_more}

-- the part that is heard, and what is left of it
pub read_parts : (count kept : ℕ) (room part : List ℕ) → kept ≤ count → part ≡ take kept room → take count room ≡ part ++ drop kept (take count room)
read_parts count kept room part fits is =
    sym (take-append-drop kept (take count room)) ∙ ap (λ l. l ++ drop kept (take count room)) (take-take kept count room fits ∙ sym is)

-- one byte is left
pub read_one_more : (count kept : ℕ) (room part : List ℕ) → count ≡ kept + 1 → count ≤ length room → part ≡ take kept room → take count room ≡ part ++ get_or room kept 0 ∷ []
read_one_more count kept room part one within is =
    ap (λ n. take n room) one ∙ take_more room kept 0 (omega (arith, one, within)) ∙ ap (λ l. l ++ get_or room kept 0 ∷ []) (sym is)

-- nothing is left
pub read_all : (count kept : ℕ) (room part : List ℕ) → kept ≡ count → part ≡ take kept room → take count room ≡ part
read_all count kept room part all is = ap (λ n. take n room) (sym all) ∙ sym is
