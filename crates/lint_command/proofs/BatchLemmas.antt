-- Sizes of plays, one behind the other, and the smallest of batches.
use Rattle.std.proofs.Common.{◌≡◌, ℕ, ◌+◌, ◌<◌, ◌≤◌, Option, None, List, [], ◌∷◌, ◌++◌, map, drop, drop-cons, add-one, length, length-append, arith, sym, ap, ◌∙◌, subst, inl, inr, ◌⊎◌}
use Rattle.std.specs.Prelude.{IfOk, Ok, Err, Result, is_some, slice_index_or}
use Rattle.std.proofs.lemmas.List.{get_or_append_left, get_or_default}
use Rattle.std.proofs.lemmas.Bool.{cases_lt}
use Rattle.std.proofs.Math.Seq.{get_or-append_seam}
use Rattle.domains.specs.FleetViews.{FleetView}
use Rattle.play_model.specs.declared.play.Play.{Play}
use Rattle.fleet_index.specs.NumberLists.{list_at}
use Rattle.lint_command.specs.Batches.{IsSmallestIn, IsSmallestOf, least_of, lesser}

-- the first so many plays have their sizes
pub record AreSmallestSoFar (fleet : FleetView) (plays : List Play) (sizes : List (Option ℕ)) (count : ℕ) : Type 0 where
  pub len : length sizes ≡ count
  pub each : (number : ℕ) (none : Play) → number < count → IsSmallestOf fleet (slice_index_or plays number none) (slice_index_or sizes number None)

pub smallest_more : (fleet : FleetView) (plays : List Play) (sizes more : List (Option ℕ)) (count : ℕ) (play : Play) (size : Option ℕ) → count < length plays
    → play ≡ slice_index_or plays count play → more ≡ sizes ++ size ∷ [] → IsSmallestOf fleet play size → AreSmallestSoFar fleet plays sizes count → AreSmallestSoFar fleet plays more (count + 1)
smallest_more fleet plays sizes more count play size within is pushed now before =
    record {
      len = ap length pushed ∙ length-append sizes (size ∷ []) ∙ ap (λ n. n + 1) before.len;
      each = λ number none below. each_more number none below (cases_lt number count);
    }
  where
    each_more : (number : ℕ) (none : Play) → number < count + 1 → (number < count) ⊎ (count ≤ number)
        → IsSmallestOf fleet (slice_index_or plays number none) (slice_index_or more number None)
    each_more number none below (inl less) =
        let stays : slice_index_or sizes number None ≡ slice_index_or more number None =
        sym (ap (λ (l : List (Option ℕ)). slice_index_or l number None) pushed ∙ get_or_append_left sizes (size ∷ []) None number (omega (arith, less, before.len))) in
        subst (IsSmallestOf fleet (slice_index_or plays number none)) stays (before.each number none less)
    each_more number none below (inr later) =
        let last : number ≡ count = omega (arith, below, later) in
        let place : number ≡ length sizes = last ∙ sym before.len in
        let one : play ≡ slice_index_or plays number none =
        is ∙ get_or_default plays count play none within ∙ ap (λ n. slice_index_or plays n none) (sym last) in
        let other : size ≡ slice_index_or more number None =
        sym (ap (λ (l : List (Option ℕ)). slice_index_or l number None) pushed ∙ ap (λ n. slice_index_or (sizes ++ size ∷ []) n None) place ∙ get_or-append_seam sizes size [] None) in
        subst (λ (p : Play). IsSmallestOf fleet p (slice_index_or more number None)) one (subst (IsSmallestOf fleet play) other now)

-- one batch more
pub least_more : (batches : List (List ℕ)) (place : ℕ) (least : Option ℕ) → place < length batches
    → least_of least (map length (drop place batches)) ≡ least_of (lesser least (length (list_at batches place))) (map length (drop (place + 1) batches))
least_more batches place least within =
    ap (λ (l : List (List ℕ)). least_of least (map length l)) (drop-cons batches place [] within ∙ ap (λ n. list_at batches place ∷ drop n batches) (sym (add-one place)))

-- a plan's answer serves where it is asked for
pub where_asked : {E : Type 0} (fleet : FleetView) (play : Play) (result : Result (Option ℕ) E) → IfOk result (IsSmallestIn fleet play) → IfOk result (IsSmallestOf fleet play)
where_asked fleet play (Ok size) is = λ asked. is
where_asked fleet play (Err refused) is = is

pub none_asked : (fleet : FleetView) (play : Play) → play.max_fail ≡ None → IsSmallestOf fleet play None
none_asked fleet play none asked = absurd (let wrong = sym asked ∙ ap is_some none in cc)
