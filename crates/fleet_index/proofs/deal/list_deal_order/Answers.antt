use Rattle.std.proofs.Common.{◌≡◌, ℕ, map, ap, ◌∙◌}
use Rattle.std.proofs.lemmas.List.{take_all}
use Rattle.fleet_index.specs.Ids.{group_lists, host_numbers}
use Rattle.fleet_index.proofs.DealLemmas.{dealt_once, dealt_by_key}
use Rattle.fleet_index.proofs.deal.list_deal_order.Goals as goal

pub returns-clause-each_once : goal.returns-clause-each_once
returns-clause-each_once c =
    let all : host_numbers c.loop-key.order.items ≡ map (λ (p : ℕ × ℕ). p.1) c.sort_unstable.new.self.items =
    c.loop-key.invariant
    ∙ ap (map (λ (p : ℕ × ℕ). p.1)) (take_all c.loop-key.key-index c.deref-key-items.result.now c.loop-key-test.false ∙ c.deref-key-items.ensures.value) in
    dealt_once (group_lists c.args.chains.now) c.in_ok-keys.keys.items c.sort_unstable.new.self.items (host_numbers c.loop-key.order.items)
    c.in_ok-keys.ensures c.sort_unstable.ensures.permutation all

pub returns-clause-dealt : goal.returns-clause-dealt
returns-clause-dealt c =
    let all : host_numbers c.loop-key.order.items ≡ map (λ (p : ℕ × ℕ). p.1) c.sort_unstable.new.self.items =
    c.loop-key.invariant
    ∙ ap (map (λ (p : ℕ × ℕ). p.1)) (take_all c.loop-key.key-index c.deref-key-items.result.now c.loop-key-test.false ∙ c.deref-key-items.ensures.value) in
    dealt_by_key (group_lists c.args.chains.now) c.in_ok-keys.keys.items c.sort_unstable.new.self.items (host_numbers c.loop-key.order.items)
    c.in_ok-keys.ensures c.sort_unstable.ensures.permutation all c.sort_unstable.ensures.sorted
