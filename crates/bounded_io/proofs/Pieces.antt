-- Up to eight pieces of a text in a row. `grind` does not repeat a lemma, so each number of pieces has its own.
use Rattle.std.proofs.Common.{◌≡◌, ℕ, ◌+◌, ◌<◌, List, [], ◌∷◌, ◌++◌, length, take, get_or, flat_map, refl, sym, ap, ◌∙◌, append-nil}
use Rattle.std.proofs.lemmas.Grind.{take_at_read, flat_map-append}
use Rattle.std.specs.Prelude.{Option}
use Rattle.bounded_io.specs.declared.text_writer.TextWriter.{TextWriter}
use Rattle.bounded_io.specs.Writing.{Writes}
use Rattle.bounded_io.proofs.WritingLemmas.{writes_none, writes_two}

pub writes_three : {W : Type 0} (contents : W → Option (List ℕ)) (t0 t1 t2 t3 : TextWriter W) (a b c all : List ℕ)
    → Writes contents t0 t1 a → Writes contents t1 t2 b → Writes contents t2 t3 c
    → a ++ (b ++ c) ≡ all → Writes contents t0 t3 all
writes_three contents t0 t1 t2 t3 a b c all p0 p1 p2 whole =
    let rest = b ++ c in
    writes_two contents t0 t1 t3 a rest all p0 (writes_two contents t1 t2 t3 b c rest p1 p2 refl) whole

pub writes_four : {W : Type 0} (contents : W → Option (List ℕ)) (t0 t1 t2 t3 t4 : TextWriter W) (a b c d all : List ℕ)
    → Writes contents t0 t1 a → Writes contents t1 t2 b → Writes contents t2 t3 c → Writes contents t3 t4 d
    → a ++ (b ++ (c ++ d)) ≡ all → Writes contents t0 t4 all
writes_four contents t0 t1 t2 t3 t4 a b c d all p0 p1 p2 p3 whole =
    let rest = b ++ (c ++ d) in
    writes_two contents t0 t1 t4 a rest all p0 (writes_three contents t1 t2 t3 t4 b c d rest p1 p2 p3 refl) whole

pub writes_five : {W : Type 0} (contents : W → Option (List ℕ)) (t0 t1 t2 t3 t4 t5 : TextWriter W) (a b c d e all : List ℕ)
    → Writes contents t0 t1 a → Writes contents t1 t2 b → Writes contents t2 t3 c → Writes contents t3 t4 d
    → Writes contents t4 t5 e
    → a ++ (b ++ (c ++ (d ++ e))) ≡ all → Writes contents t0 t5 all
writes_five contents t0 t1 t2 t3 t4 t5 a b c d e all p0 p1 p2 p3 p4 whole =
    let rest = b ++ (c ++ (d ++ e)) in
    writes_two contents t0 t1 t5 a rest all p0 (writes_four contents t1 t2 t3 t4 t5 b c d e rest p1 p2 p3 p4 refl) whole

pub writes_six : {W : Type 0} (contents : W → Option (List ℕ)) (t0 t1 t2 t3 t4 t5 t6 : TextWriter W) (a b c d e f all : List ℕ)
    → Writes contents t0 t1 a → Writes contents t1 t2 b → Writes contents t2 t3 c → Writes contents t3 t4 d
    → Writes contents t4 t5 e → Writes contents t5 t6 f
    → a ++ (b ++ (c ++ (d ++ (e ++ f)))) ≡ all → Writes contents t0 t6 all
writes_six contents t0 t1 t2 t3 t4 t5 t6 a b c d e f all p0 p1 p2 p3 p4 p5 whole =
    let rest = b ++ (c ++ (d ++ (e ++ f))) in
    writes_two contents t0 t1 t6 a rest all p0 (writes_five contents t1 t2 t3 t4 t5 t6 b c d e f rest p1 p2 p3 p4 p5 refl) whole

pub writes_seven : {W : Type 0} (contents : W → Option (List ℕ)) (t0 t1 t2 t3 t4 t5 t6 t7 : TextWriter W) (a b c d e f g all : List ℕ)
    → Writes contents t0 t1 a → Writes contents t1 t2 b → Writes contents t2 t3 c → Writes contents t3 t4 d
    → Writes contents t4 t5 e → Writes contents t5 t6 f → Writes contents t6 t7 g
    → a ++ (b ++ (c ++ (d ++ (e ++ (f ++ g))))) ≡ all → Writes contents t0 t7 all
writes_seven contents t0 t1 t2 t3 t4 t5 t6 t7 a b c d e f g all p0 p1 p2 p3 p4 p5 p6 whole =
    let rest = b ++ (c ++ (d ++ (e ++ (f ++ g)))) in
    writes_two contents t0 t1 t7 a rest all p0 (writes_six contents t1 t2 t3 t4 t5 t6 t7 b c d e f g rest p1 p2 p3 p4 p5 p6 refl) whole

pub writes_eight : {W : Type 0} (contents : W → Option (List ℕ)) (t0 t1 t2 t3 t4 t5 t6 t7 t8 : TextWriter W) (a b c d e f g h all : List ℕ)
    → Writes contents t0 t1 a → Writes contents t1 t2 b → Writes contents t2 t3 c → Writes contents t3 t4 d
    → Writes contents t4 t5 e → Writes contents t5 t6 f → Writes contents t6 t7 g → Writes contents t7 t8 h
    → a ++ (b ++ (c ++ (d ++ (e ++ (f ++ (g ++ h)))))) ≡ all → Writes contents t0 t8 all
writes_eight contents t0 t1 t2 t3 t4 t5 t6 t7 t8 a b c d e f g h all p0 p1 p2 p3 p4 p5 p6 p7 whole =
    let rest = b ++ (c ++ (d ++ (e ++ (f ++ (g ++ h))))) in
    writes_two contents t0 t1 t8 a rest all p0 (writes_seven contents t1 t2 t3 t4 t5 t6 t7 t8 b c d e f g h rest p1 p2 p3 p4 p5 p6 p7 refl) whole

-- a loop that writes a piece for each item of a list
pub writes_each : {W X : Type 0} (contents : W → Option (List ℕ)) (piece : X → List ℕ) (xs : List X) (i : ℕ) (x item : X) (t0 t1 t2 : TextWriter W)
    → Writes contents t0 t1 (flat_map piece (take i xs)) → Writes contents t1 t2 (piece item) → item ≡ get_or xs i x → i < length xs
    → Writes contents t0 t2 (flat_map piece (take (i + 1) xs))
writes_each contents piece xs i x item t0 t1 t2 before now is within =
    let one : flat_map piece (item ∷ []) ≡ piece item = append-nil (piece item) in
    let written = flat_map piece (take i xs) in
    let last = ap (λ y. flat_map piece (take i xs ++ y ∷ [])) (sym is) ∙ flat_map-append piece (take i xs) (item ∷ []) ∙ ap (λ l. written ++ l) one in
    let more = ap (flat_map piece) (take_at_read xs i x within).1 ∙ last in
    writes_two contents t0 t1 t2 written (piece item) _ before now (sym more)

-- the empty text, two to eight pieces, and a piece for each item
pub ruleset pieces_of_text = (writes_none, writes_two, writes_three, writes_four, writes_five, writes_six, writes_seven, writes_eight, writes_each)
