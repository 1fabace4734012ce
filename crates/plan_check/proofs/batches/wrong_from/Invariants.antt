use Rattle.std.proofs.Common.{◌≡◌, ◌+◌, ℕ, List, [], length, drop}
use Rattle.plan_check.specs.Inside.{AreMarks}
use Rattle.plan_check.specs.PlanErrors.{wrong_from}
use Rattle.plan_check.proofs.batches.wrong_from.Given as goal

abbrev pub invariant-loop-place : goal.invariant-loop-place
invariant-loop-place l = record {
  len : length l.stood ≡ length l.terms.statuses.now;
  so_far : (later : List ℕ) × AreMarks l.stood later
      × (wrong_from l.terms.fleet.now l.terms.statuses.now l.terms.cap 1 [] l.batches ≡ wrong_from l.terms.fleet.now l.terms.statuses.now l.terms.cap (l.place + 1) later (drop l.place l.batches));
}
