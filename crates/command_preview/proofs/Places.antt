-- Lists and texts that are made entry by entry.
use Rattle.std.proofs.Common.{◌≡◌, ℕ, suc, ◌+◌, ◌<◌, ◌≤◌, Bool, ◌||◌, List, [], ◌∷◌, ◌++◌, length, take, drop, get_or, flat_map, sym, ap, ◌∙◌, refl, arith, append_assoc}
use Rattle.std.specs.List.{list_any}
use Rattle.std.proofs.Math.Seq.{drop-cons}
use Rattle.std.proofs.lemmas.List.{length-take-le, take-append-drop, take_more}
use Rattle.std.proofs.lemmas.List.Concat.{flat_map-append}
use Rattle.std.proofs.lemmas.List.Folds.{list_any-append}
use Rattle.recap.specs.RecapText.{text_by_place}
use Rattle.command_preview.specs.Lines.{by_place}
use Rattle.command_preview.specs.Inside.{told_by}

-- an entry of a list, with what stands before it and behind it
pub around : {X : Type 0} (xs : List X) (i : ℕ) (x : X) → i < length xs → x ≡ get_or xs i x → xs ≡ take i xs ++ x ∷ drop (i + 1) xs
around xs i x within is =
    let after : suc i ≡ i + 1 = omega arith in
    let next : drop i xs ≡ x ∷ drop (i + 1) xs = drop-cons xs i x within ∙ ap (λ e. e ∷ drop (suc i) xs) (sym is) ∙ ap (λ n. x ∷ drop n xs) after in
    sym (take-append-drop i xs) ∙ ap (λ l. take i xs ++ l) next

module _ {X : Type 0} (piece : ℕ → X → List ℕ) where
  pub text-append : (place : ℕ) (xs ys : List X) → text_by_place piece place (xs ++ ys) ≡ text_by_place piece place xs ++ text_by_place piece (place + length xs) ys
  text-append place [] ys = ap (λ n. text_by_place piece n ys) (omega arith)
  text-append place (x ∷ xs) ys =
      ap (λ text. piece place x ++ text) (text-append (place + 1) xs ys)
      ∙ ap (λ n. piece place x ++ (text_by_place piece (place + 1) xs ++ text_by_place piece n ys)) (omega arith)
      ∙ sym (append_assoc (piece place x) (text_by_place piece (place + 1) xs) (text_by_place piece (place + length (x ∷ xs)) ys))

  pub text_around : (xs : List X) (i : ℕ) (x : X) → i < length xs → x ≡ get_or xs i x
      → text_by_place piece 0 xs ≡ text_by_place piece 0 (take i xs) ++ (piece i x ++ text_by_place piece (i + 1) (drop (i + 1) xs))
  text_around xs i x within is =
      let long : length (take i xs) ≡ i = length-take-le i xs (omega (arith, within)) in
      let rest = drop (i + 1) xs in
      let at : 0 + length (take i xs) ≡ i = omega (arith, long) in
      ap (text_by_place piece 0) (around xs i x within is) ∙ text-append 0 (take i xs) (x ∷ rest)
      ∙ ap (λ n. text_by_place piece 0 (take i xs) ++ (piece n x ++ text_by_place piece (n + 1) rest)) at

module _ {X Y : Type 0} (gives : ℕ → X → Y) where
  pub by_place-append : (place : ℕ) (xs ys : List X) → by_place gives place (xs ++ ys) ≡ by_place gives place xs ++ by_place gives (place + length xs) ys
  by_place-append place [] ys = ap (λ n. by_place gives n ys) (omega arith)
  by_place-append place (x ∷ xs) ys =
      ap (λ l. gives place x ∷ l) (by_place-append (place + 1) xs ys)
      ∙ ap (λ n. gives place x ∷ (by_place gives (place + 1) xs ++ by_place gives n ys)) (omega arith)

  -- one entry more
  pub by_place_more : (xs : List X) (i : ℕ) (x : X) → i < length xs → x ≡ get_or xs i x → by_place gives 0 (take (i + 1) xs) ≡ by_place gives 0 (take i xs) ++ gives i x ∷ []
  by_place_more xs i x within is =
      let long : length (take i xs) ≡ i = length-take-le i xs (omega (arith, within)) in
      let at : 0 + length (take i xs) ≡ i = omega (arith, long) in
      ap (by_place gives 0) (take_more xs i x within) ∙ ap (λ e. by_place gives 0 (take i xs ++ e ∷ [])) (sym is)
      ∙ by_place-append 0 (take i xs) (x ∷ []) ∙ ap (λ n. by_place gives 0 (take i xs) ++ gives n x ∷ []) at

  -- what is written of what the entries give
  pub texts_of_given : (piece : ℕ → Y → List ℕ) (place : ℕ) (xs : List X) → text_by_place piece place (by_place gives place xs) ≡ text_by_place (λ n x. piece n (gives n x)) place xs
  texts_of_given piece place [] = refl
  texts_of_given piece place (x ∷ xs) = ap (λ text. piece place (gives place x) ++ text) (texts_of_given piece (place + 1) xs)

  pub pieces_of_given : (piece : Y → List ℕ) (place : ℕ) (xs : List X) → flat_map piece (by_place gives place xs) ≡ text_by_place (λ n x. piece (gives n x)) place xs
  pieces_of_given piece place [] = refl
  pieces_of_given piece place (x ∷ xs) = ap (λ text. piece (gives place x) ++ text) (pieces_of_given piece (place + 1) xs)

  pub any_given : (test : Y → Bool) (place : ℕ) (xs : List X) → list_any test (by_place gives place xs) ≡ told_by (λ n x. test (gives n x)) place xs
  any_given test place [] = refl
  any_given test place (x ∷ xs) = ap (λ b. test (gives place x) || b) (any_given test (place + 1) xs)

  -- two ways to give that agree on these places
  pub same_given : (other : ℕ → X → Y) (place : ℕ) (xs : List X) → ((n : ℕ) (x : X) → place ≤ n → n < place + length xs → gives n x ≡ other n x)
      → by_place gives place xs ≡ by_place other place xs
  same_given other place [] same = refl
  same_given other place (x ∷ xs) same =
      let here : gives place x ≡ other place x = same place x (omega arith) (omega arith) in
      let later = same_given other (place + 1) xs (λ n y low high. same n y (omega (arith, low)) (omega (arith, high))) in
      cc

-- of each entry a list of entries
pub pieces_of_lists : {X Y : Type 0} (piece : Y → List ℕ) (lists : X → List Y) (place : ℕ) (xs : List X)
    → flat_map piece (flat_map lists xs) ≡ text_by_place (λ n x. flat_map piece (lists x)) place xs
pieces_of_lists piece lists place [] = refl
pieces_of_lists piece lists place (x ∷ xs) =
    flat_map-append piece (lists x) (flat_map lists xs) ∙ ap (λ text. flat_map piece (lists x) ++ text) (pieces_of_lists piece lists (place + 1) xs)

pub any_in_lists : {X Y : Type 0} (test : Y → Bool) (lists : X → List Y) (place : ℕ) (xs : List X)
    → list_any test (flat_map lists xs) ≡ told_by (λ n x. list_any test (lists x)) place xs
any_in_lists test lists place [] = refl
any_in_lists test lists place (x ∷ xs) =
    list_any-append test (lists x) (flat_map lists xs) ∙ ap (λ b. list_any test (lists x) || b) (any_in_lists test lists (place + 1) xs)
