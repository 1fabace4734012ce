use Rattle.std.proofs.Common.{◌≡◌, map}
use Rattle.std.specs.List.{range_with_len}
use Rattle.fleet_index.specs.Runs.{AreEnds, runs}
use Rattle.domains.specs.Ids.{host_numbers}
use Rattle.batch_plan.specs.Deals.{dealt_to}
use Rattle.batch_plan.proofs.dealing.deal.Given as goal

abbrev pub invariant-loop-batch : goal.invariant-loop-batch
invariant-loop-batch l =
    record {
      batches : runs (host_numbers l.dealt.items) l.ends.items ≡ map (λ b. dealt_to l.count b 0 (host_numbers l.hosts)) (range_with_len 0 l.batch);
      ends : AreEnds (host_numbers l.dealt.items) l.ends.items;
    }
