-- What is written entry by entry, until memory is wanting.
use Rattle.std.proofs.Common.{◌≡◌, ℕ, ◌+◌, ◌<◌, Bool, false, true, ◌||◌, List, [], ◌∷◌, ◌++◌, length, take, drop, get_or, sym, ap, ◌∙◌, refl, append_assoc}
use Rattle.std.specs.Prelude.{Option}
use Rattle.std.specs.List.{list_any}
use Rattle.std.proofs.lemmas.List.Folds.{list_any-append}
use Rattle.bounded_io.specs.declared.text_writer.TextWriter.{TextWriter}
use Rattle.bounded_io.specs.Writing.{Writes}
use Rattle.bounded_io.proofs.WritingLemmas.{writes_none, writes_two}
use Rattle.recap.specs.RecapText.{text_by_place}
use Rattle.recap.proofs.PlaceLemmas.{text_more}
use Rattle.command_preview.specs.Inside.{WritesFront, told_by}
use Rattle.command_preview.specs.Lines.{by_place}
use Rattle.command_preview.proofs.Places.{by_place_more, text_around}

or_none : (a : Bool) → (a || false) ≡ a
or_none true = refl
or_none false = refl

-- what stands before was given whole
pub front_behind : {W : Type 0} (contents : W → Option (List ℕ)) (t0 t1 t2 : TextWriter W) (a b c all : List ℕ)
    → Writes contents t0 t1 a → WritesFront contents t1 t2 b → all ≡ a ++ (b ++ c) → WritesFront contents t0 t2 all
front_behind contents t0 t1 t2 a b c all before here whole = record {
  front = a ++ here.front;
  rest = here.rest ++ c;
  parts =
      whole ∙ ap (λ l. a ++ (l ++ c)) here.parts ∙ ap (λ l. a ++ l) (append_assoc here.front here.rest c)
      ∙ sym (append_assoc a here.front (here.rest ++ c));
  written = writes_two contents t0 t1 t2 a here.front (a ++ here.front) before here.written refl;
}

module _ {W X : Type 0} (contents : W → Option (List ℕ)) (t0 t1 t2 : TextWriter W) (piece : ℕ → X → List ℕ) (xs : List X) (i : ℕ) (x : X)
    (within : i < length xs) (is : x ≡ get_or xs i x) (before : Writes contents t0 t1 (text_by_place piece 0 (take i xs))) where
  pub one_more : Writes contents t1 t2 (piece i x) → Writes contents t0 t2 (text_by_place piece 0 (take (i + 1) xs))
  one_more here =
      writes_two contents t0 t1 t2 (text_by_place piece 0 (take i xs)) (piece i x) _ before here (text_more piece xs i x within is)

  pub front_here : WritesFront contents t1 t2 (piece i x) → WritesFront contents t0 t2 (text_by_place piece 0 xs)
  front_here here =
      front_behind contents t0 t1 t2 (text_by_place piece 0 (take i xs)) (piece i x) (text_by_place piece (i + 1) (drop (i + 1) xs)) _ before here
      (text_around piece xs i x within is)

pub told_more : {X : Type 0} (test : ℕ → X → Bool) (xs : List X) (i : ℕ) (x : X) (before here : Bool) → i < length xs → x ≡ get_or xs i x
    → before ≡ told_by test 0 (take i xs) → here ≡ test i x → (before || here) ≡ told_by test 0 (take (i + 1) xs)
told_more test xs i x before here within is so now =
    let more : told_by test 0 (take (i + 1) xs) ≡ (told_by test 0 (take i xs) || (test i x || false)) =
    ap (list_any (λ b. b)) (by_place_more test xs i x within is) ∙ list_any-append (λ b. b) (by_place test 0 (take i xs)) (test i x ∷ []) in
    let last : (test i x || false) ≡ test i x = or_none (test i x) in
    cc

pub nothing_written : {W : Type 0} (contents : W → Option (List ℕ)) (t : TextWriter W) (bytes : List ℕ) → WritesFront contents t t bytes
nothing_written contents t bytes = record { front = []; rest = bytes; parts = refl; written = writes_none contents t }
