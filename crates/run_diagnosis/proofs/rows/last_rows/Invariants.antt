use Rattle.std.proofs.Common.{◌≡◌, ℕ, ◌<◌, None, length, map, take}
use Rattle.std.specs.List.{last_or}
use Rattle.run_diagnosis.specs.Rows.{rows_in, seen_at, shown}
use Rattle.run_diagnosis.proofs.rows.last_rows.Given as goal

abbrev pub invariant-loop-place : goal.invariant-loop-place
invariant-loop-place l =
    (length l.last.items ≡ l.hosts)
    × ((host : ℕ) → host < l.hosts → seen_at l.last.items host ≡ last_or None (rows_in 1 host (take l.place (map shown l.played))))
