use Rattle.std.proofs.Common.{◌≡◌, ℕ, ◌<◌, true, List, cond, length, get_or, sym, ap, ◌∙◌, arith}
use Rattle.std.proofs.lemmas.List.Sums.{sum_by_more, sum_by_more_le}
use Rattle.group_tree.specs.declared.ids.HostId.{HostId}
use Rattle.fleet_index.specs.NumberLists.{has_number, list_at}
use Rattle.fleet_index.proofs.RisingLemmas.{are_below-rising}
use Rattle.domains.specs.Ids.{group_numbers, host_numbers}
use Rattle.fleet_states.proofs.HostLemmas.{host_below, length-host_numbers, number_of_host}
use Rattle.fleet_states.proofs.NumberLemmas.{number_below}
use Rattle.batch_plan.proofs.places_left.take_all.Goals as goal

pub chain-requires : goal.chain-requires
chain-requires c =
    host_below (length c.args.fleet.now.hosts) c.args.batch.now c.loop-host.host-index (record { index = 0 }) c.requires.within c.loop-host-test.true

pub returns-then-not-take-clause-enough : goal.returns-then-not-take-clause-enough
returns-then-not-take-clause-enough c fit =
    let batch = c.args.batch.now in
    let fleet = c.args.fleet.now in
    let left = c.args.left.now in
    let xs : List ℕ = host_numbers batch in
    let i = c.loop-host.host-index in
    let none : HostId = record { index = 0 } in
    let invariant = c.loop-host.invariant in
    let inside : i < length xs = omega (arith, c.loop-host-test.true, length-host_numbers batch) in
    let f : ℕ → ℕ → ℕ = λ group host. cond (has_number group (list_at fleet.chains host)) 1 0 in
    let chain : list_at fleet.chains (get_or xs i 0) ≡ group_numbers c.chain.result.now = ap (list_at fleet.chains) (number_of_host batch i none c.loop-host-test.true) ∙ sym c.chain.ensures.chain in
    let below : (group : ℕ) → has_number group (group_numbers c.chain.result.now) ≡ true → group < length fleet.groups =
    λ group here. number_below (length fleet.groups) (group_numbers c.chain.result.now) group (are_below-rising (length fleet.groups) (group_numbers c.chain.result.now) c.chain.ensures.rise) here in
    let one : (group : ℕ) → has_number group (group_numbers c.chain.result.now) ≡ true → f group (get_or xs i 0) ≡ 1 =
    λ group here. ap (λ b. cond b 1 0) (ap (has_number group) chain ∙ here) in
    let told = c.take.ensures.enough
    (λ group here. omega (
      arith,
      below group here,
      one group here,
      sum_by_more_le (f group) xs i 0 inside,
      fit group (omega (arith, below group here, c.requires.len)),
      invariant.taken group (omega (arith, below group here, c.requires.len)),
    )) in
    absurd (cc)

pub loop-host-preserved : goal.loop-host-preserved
loop-host-preserved c =
    let batch = c.args.batch.now in
    let fleet = c.args.fleet.now in
    let xs : List ℕ = host_numbers batch in
    let i = c.loop-host.host-index in
    let none : HostId = record { index = 0 } in
    let invariant = c.loop-host.invariant in
    let inside : i < length xs = omega (arith, c.loop-host-test.true, length-host_numbers batch) in
    let f : ℕ → ℕ → ℕ = λ group host. cond (has_number group (list_at fleet.chains host)) 1 0 in
    let chain : list_at fleet.chains (get_or xs i 0) ≡ group_numbers c.chain.result.now = ap (list_at fleet.chains) (number_of_host batch i none c.loop-host-test.true) ∙ sym c.chain.ensures.chain in
    let here : (group : ℕ) → f group (get_or xs i 0) ≡ cond (has_number group (group_numbers c.chain.result.now)) 1 0 = λ group. ap (λ (l : List ℕ). cond (has_number group l) 1 0) chain in
    record {
      len = c.take.ensures.len ∙ invariant.len;
      taken = λ group l. omega
          (arith, here group, sum_by_more (f group) xs i 0 inside, invariant.taken group l, c.take.ensures.taken c.if-not-take.false group (omega (arith, l, invariant.len)));
    }
