-- Counts of rows, with one more row.
use Rattle.std.proofs.Common.{◌≡◌, ℕ, ◌+◌, ◌<◌, ◌≤◌, Bool, true, false, cond, List, [], ◌∷◌, ◌++◌, length, ap, ◌∙◌, arith}
use Rattle.std.specs.List.{count_by}
use Rattle.std.proofs.lemmas.List.Sums.{count_by-le-length, sum_by-append}
use Rattle.host_track.specs.Counting.{one_more_if}
use Rattle.host_track.specs.declared.counts.Counts.{Counts}

pub counted : {X : Type 0} (p : X → Bool) → (rows : List X) (row : X) → length rows < 4294967295 → one_more_if (p row) (count_by p rows) ≡ count_by p (rows ++ row ∷ [])
counted {X} p rows row few =
    by_case (p row) (sum_by-append (λ x. cond (p x) 1 0) rows (row ∷ []))
  where
    by_case : (passes : Bool) → count_by p (rows ++ row ∷ []) ≡ count_by p rows + (0 + cond passes 1 0) → one_more_if passes (count_by p rows) ≡ count_by p (rows ++ row ∷ [])
    by_case true e =
        let below : count_by p rows ≤ length rows = count_by-le-length p rows in
        omega arith
    by_case false e =
        let below : count_by p rows ≤ length rows = count_by-le-length p rows in
        omega arith

-- a count with one more row, if the row passes
pub counted_next : {X : Type 0} (p : X → Bool) → (rows : List X) (row : X) (passes : Bool) (old new : ℕ) → length rows < 4294967295
    → old ≡ count_by p rows → passes ≡ p row → new ≡ one_more_if passes old → new ≡ count_by p (rows ++ row ∷ [])
counted_next p rows row passes old new few was is makes =
    makes ∙ ap (one_more_if passes) was ∙ ap (λ b. one_more_if b (count_by p rows)) is ∙ counted p rows row few

abbrev counts_with : ℕ → ℕ → ℕ → ℕ → ℕ → Counts
counts_with ok changed failed skipped ignored =
    record { ok = ok; changed = changed; failed = failed; skipped = skipped; ignored = ignored }

-- likewise for each of the five counts
pub same_counts : (a b c d e v w x y z : ℕ) → a ≡ v → b ≡ w → c ≡ x → d ≡ y → e ≡ z → counts_with a b c d e ≡ counts_with v w x y z
same_counts a b c d e v w x y z ok changed failed skipped ignored =
    ap (λ n. counts_with n b c d e) ok ∙ ap (λ n. counts_with v n c d e) changed ∙ ap (λ n. counts_with v w n d e) failed
    ∙ ap (λ n. counts_with v w x n e) skipped ∙ ap (λ n. counts_with v w x y n) ignored
