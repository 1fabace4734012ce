use Rattle.std.proofs.Common.{◌≡◌, ◌+◌, ◌<◌, ◌≤◌, [], length}
use Rattle.std.specs.Borrow.{Bor}
use Rattle.std.specs.Prelude.{List, ℕ}
use Rattle.std.specs.Option.{option_map_or}
use Rattle.plan_check.specs.Listings.{bad_from, bad_line, lines_of}
use Rattle.plan_check.proofs.listing.find_bad_line.Given as goal

abbrev pub invariant-loop-left : goal.invariant-loop-left
invariant-loop-left l = record {
  bad : bad_line l.text ≡ bad_from l.number l.count (option_map_or (λ (t : Bor (List ℕ)). lines_of t.now) l.left []);
  few : l.count < l.number;
  within : l.number + option_map_or (λ (t : Bor (List ℕ)). length t.now + 1) l.left 0 ≤ length l.text + 2;
}

abbrev pub decreases-loop-left : goal.decreases-loop-left
decreases-loop-left l = option_map_or (λ (t : Bor (List ℕ)). length t.now + 1) l.left 0
