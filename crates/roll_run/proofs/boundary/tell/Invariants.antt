use Rattle.std.proofs.Common.{◌≡◌}
use Rattle.std.specs.Prelude.{take}
use Rattle.domains.specs.Ids.{host_numbers}
use Rattle.batch_plan.specs.Places.{told_places}
use Rattle.roll_run.proofs.boundary.tell.Given as goal

abbrev pub invariant-loop-place : goal.invariant-loop-place
invariant-loop-place g l =
    l.domains ≡ told_places (take l.place (host_numbers l.hosts)) l.statuses l.initial.domains
