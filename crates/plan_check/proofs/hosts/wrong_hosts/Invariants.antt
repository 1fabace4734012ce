use Rattle.std.proofs.Common.{◌≡◌, ℕ, List, length, take, drop}
use Rattle.domains.specs.Ids.{host_numbers}
use Rattle.plan_check.specs.Inside.{AreMarks}
use Rattle.plan_check.specs.PlanErrors.{behind, wrong_hosts}
use Rattle.plan_check.proofs.hosts.wrong_hosts.Given as goal

abbrev pub invariant-loop-host : goal.invariant-loop-host
invariant-loop-host l = record {
  len : length l.stood ≡ length l.statuses;
  so_far : (before : List ℕ) → AreMarks l.initial.stood before → AreMarks l.stood (behind before (take l.host-index (host_numbers l.hosts)))
      × (wrong_hosts l.statuses l.batch before (host_numbers l.hosts)
      ≡ wrong_hosts l.statuses l.batch (behind before (take l.host-index (host_numbers l.hosts))) (drop l.host-index (host_numbers l.hosts)));
}
