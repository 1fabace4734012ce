use Rattle.std.proofs.Common.{◌≡◌, ◌++◌, ◌-◌, length, drop}
use Rattle.domains.specs.Ids.{host_numbers}
use Rattle.batch_plan.specs.Deals.{dealt_to}
use Rattle.batch_plan.proofs.dealing.deal_to.Given as goal

abbrev pub invariant-loop-place : goal.invariant-loop-place
invariant-loop-place l =
    host_numbers l.dealt.items ++ dealt_to l.count l.batch l.batch (drop l.place (host_numbers l.hosts)) ≡ host_numbers l.initial.dealt.items ++ dealt_to l.count l.batch 0 (host_numbers l.hosts)

abbrev pub decreases-loop-place : goal.decreases-loop-place
decreases-loop-place l = length l.hosts - l.place
