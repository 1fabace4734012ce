use Rattle.std.proofs.Common.{◌≡◌, ◌<◌, ℕ, length, get_or, take}
use Rattle.domains.specs.Ids.{host_numbers}
use Rattle.batch_plan.specs.Checks.{chain_count}
use Rattle.plan_check.proofs.groups.count_members.Given as goal

abbrev pub invariant-loop-host : goal.invariant-loop-host
invariant-loop-host l = record {
  len : length l.counts ≡ length l.initial.counts;
  counted : (group : ℕ) → group < length l.initial.counts → get_or l.counts group 0 ≡ chain_count l.fleet.chains group (take l.host-index (host_numbers l.batch));
}
