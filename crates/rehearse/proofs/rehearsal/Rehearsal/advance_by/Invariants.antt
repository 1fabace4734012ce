use Rattle.std.proofs.Common.{◌≡◌, ◌-◌, ◌≤◌, length}
use Rattle.rehearse.specs.Kept.{IsKept}
use Rattle.rehearse.proofs.GoingOnLemmas.{IsGoingOn}
use Rattle.rehearse.proofs.rehearsal.Rehearsal.advance_by.Given as goal

abbrev pub invariant-loop : goal.invariant-loop
invariant-loop l = record {
  going : IsGoingOn l.count l.marked l.initial.self (l.count - l.counter) l.self;
  kept : IsKept l.self;
  within : l.counter ≤ l.count;
  stages_are : l.stages ≡ length l.initial.self.above;
}
