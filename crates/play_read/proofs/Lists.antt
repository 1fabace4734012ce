-- Lists, index by index.
use Rattle.std.proofs.Common.{◌≡◌, ◌≤◌, Option, Some, None, List, [], ◌∷◌, ◌++◌, length, map, sym, ap, ◌∙◌, subst, arith}
use Rattle.std.specs.List.{AllZip, filter_map}
use Rattle.std.specs.List.{cons_option}
use Rattle.std.proofs.lemmas.List.{map-append, length-map}
pub use Rattle.playbook_schema.proofs.Lists.{left_at, taken_at}

pub all_zip_append : {A B : Type 0} (R : A → B → Type 0) (xs us : List A) (ys vs : List B) → AllZip R xs ys → AllZip R us vs → AllZip R (xs ++ us) (ys ++ vs)
all_zip_append R [] us [] vs each more = more
all_zip_append R [] us (y ∷ ys) vs each more = absurd each
all_zip_append R (x ∷ xs) us [] vs each more = absurd each
all_zip_append R (x ∷ xs) us (y ∷ ys) vs each more = (each.0, all_zip_append R xs us ys vs each.1 more)

-- one more
pub all_zip_more : {A B C : Type 0} (R : B → C → Type 0) (f : A → B) (before taken : List A) (ys now : List C) (x : A) (y : C)
    → taken ≡ before ++ x ∷ [] → now ≡ ys ++ y ∷ [] → AllZip R (map f before) ys → R (f x) y → AllZip R (map f taken) now
all_zip_more {C = C} R f before taken ys now x y further grown each is =
    let images = ap (map f) further ∙ map-append f before (x ∷ []) in
    subst (λ xs. AllZip R xs now) (sym images) (subst (λ (zs : List C). AllZip R (map f before ++ f x ∷ []) zs) (sym grown) (all_zip_append R (map f before) (f x ∷ []) ys (y ∷ []) each (is, tt)))

pub filter_map_short : {A B : Type 0} (f : A → Option B) (xs : List A) → length (filter_map f xs) ≤ length xs
filter_map_short f [] = omega arith
filter_map_short {B = B} f (x ∷ xs) = by_case (f x) (filter_map_short f xs)
  where
    by_case : (found : Option B) → length (filter_map f xs) ≤ length xs → length (cons_option found (filter_map f xs)) ≤ length (x ∷ xs)
    by_case None short = omega (arith, short)
    by_case (Some y) short = omega (arith, short)

pub as_many : {A B : Type 0} (f : A → B) (xs : List A) (ys : List B) → map f xs ≡ ys → length xs ≡ length ys
as_many f xs ys are = sym (length-map xs f) ∙ ap (λ zs. length zs) are
