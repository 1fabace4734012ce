use Rattle.std.proofs.Common.{◌≡◌, ℕ, ◌<◌, List, cond, length, get_or, sym, ap, ◌∙◌, arith}
use Rattle.std.proofs.lemmas.List.Sums.{sum_by_more}
use Rattle.group_tree.specs.declared.ids.HostId.{HostId}
use Rattle.fleet_index.specs.NumberLists.{has_number, list_at}
use Rattle.domains.specs.Ids.{group_numbers, host_numbers}
use Rattle.fleet_states.proofs.HostLemmas.{host_below, length-host_numbers, number_of_host}
use Rattle.plan_check.proofs.groups.count_members.Goals as goal

pub chain-requires : goal.chain-requires
chain-requires c =
    host_below (length c.args.fleet.now.hosts) c.args.batch.now c.loop-host.host-index (record { index = 0 }) c.requires.within c.loop-host-test.true

pub loop-host-preserved : goal.loop-host-preserved
loop-host-preserved c =
    let batch = c.args.batch.now in
    let fleet = c.args.fleet.now in
    let xs : List ℕ = host_numbers batch in
    let i = c.loop-host.host-index in
    let none : HostId = record { index = 0 } in
    let invariant = c.loop-host.invariant in
    let inside : i < length xs = omega (arith, c.loop-host-test.true, length-host_numbers batch) in
    let f : ℕ → ℕ → ℕ = λ group host. cond (has_number group (list_at fleet.chains host)) 1 0 in
    let chain : list_at fleet.chains (get_or xs i 0) ≡ group_numbers c.chain.result.now =
    ap (list_at fleet.chains) (number_of_host batch i none c.loop-host-test.true) ∙ sym c.chain.ensures.chain in
    let here : (group : ℕ) → f group (get_or xs i 0) ≡ cond (has_number group (group_numbers c.chain.result.now)) 1 0 = λ group. ap (λ (l : List ℕ). cond (has_number group l) 1 0) chain in
    record {
      len = c.raise_counts.auto.counts ∙ invariant.len;
      counted = λ group l. omega
          (arith, here group, sum_by_more (f group) xs i 0 inside, invariant.counted group l, c.raise_counts.ensures group (omega (arith, l, invariant.len)));
    }
