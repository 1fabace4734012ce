use Rattle.std.proofs.Common.{◌≡◌, drop}
use Rattle.domains.specs.Ids.{host_numbers}
use Rattle.journal.specs.States.{settled}
use Rattle.journal.specs.Shown.{shown_outcomes}
use Rattle.journal.proofs.moving.settle.Given as goal

abbrev pub invariant-loop-place : goal.invariant-loop-place
invariant-loop-place l =
    settled (host_numbers (drop l.place l.batch)) (shown_outcomes (drop l.place l.outcomes)) l.statuses
    ≡ settled (host_numbers l.batch) (shown_outcomes l.outcomes) l.initial.statuses
