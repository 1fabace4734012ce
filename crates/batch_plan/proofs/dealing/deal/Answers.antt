use Rattle.std.proofs.Common.{ℕ, List, map, sym, ◌∙◌, arith}
use Rattle.std.specs.List.{range_with_len}
use Rattle.domains.specs.Ids.{host_numbers}
use Rattle.fleet_index.proofs.RunLemmas.{added}
use Rattle.fleet_states.proofs.HostLemmas.{length-host_numbers}
use Rattle.batch_plan.specs.Deals.{dealt_to}
use Rattle.batch_plan.proofs.DealLemmas.{dealt_more}
use Rattle.batch_plan.proofs.dealing.deal.Goals as goal

pub loop-batch-preserved : goal.loop-batch-preserved
loop-batch-preserved c =
    let hosts : List ℕ = host_numbers c.args.hosts.now in
    let batch : ℕ = c.loop-batch.batch in
    let shown : List (List ℕ) = map (λ b. dealt_to c.args.count b 0 hosts) (range_with_len 0 batch) in
    let now = c.deal_to.new.dealt in
    let more = added (host_numbers c.loop-batch.dealt.items) c.loop-batch.ends.items (host_numbers now.items) c.push.new.self.items (dealt_to c.args.count batch 0 hosts) shown c.len.result
    c.loop-batch.invariant.ends c.loop-batch.invariant.batches c.in_ok-deal_to.ensures c.in_ok-push.ensures.items (omega (arith, c.len.ensures, length-host_numbers now.items, now.ok.0)) in
    record { batches = more.0 ∙ sym (dealt_more hosts c.args.count batch); ends = more.1 }
