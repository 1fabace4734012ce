use Rattle.std.proofs.Common.{◌≡◌, ℕ, ◌+◌, ◌<◌, true, false, cond, List, length, get_or, take, drop, ◌++◌, sym, ap, ◌∙◌, subst, arith}
use Rattle.std.proofs.lemmas.List.{with_items_is}
use Rattle.fleet_index.specs.NumberLists.{has_number, list_at, IsRising}
use Rattle.fleet_index.proofs.RisingLemmas.{Ascends-rising, has_number-within}
use Rattle.domains.specs.Ids.{group_numbers}
use Rattle.down_ledger.specs.Ledgers.{LedgerView, is_marked, with_mark}
use Rattle.down_ledger.specs.Inside.{IsCounted}
use Rattle.down_ledger.proofs.LedgerLemmas.{given_back_counted, length-counts, marked_within, some_counted}
use Rattle.down_ledger.proofs.ledger.DownLedger.give_back.Goals as goal

pub lower_counts-requires-clause-rising : goal.lower_counts-requires-clause-rising
lower_counts-requires-clause-rising c =
    let ledger : LedgerView = record { fleet = c.self.inside.fleet.now; down = c.self.inside.marks.items } in
    let long : length c.deref_mut.result.now ≡ length ledger.fleet.groups = ap length c.deref_mut.ensures.value ∙ length-counts ledger c.self.inside.counts.items c.self.invariant in
    subst (λ (n : ℕ). IsRising n (group_numbers c.chain.result.now)) (sym long) c.chain.ensures.rise

pub lower_counts-requires-clause-some : goal.lower_counts-requires-clause-some
lower_counts-requires-clause-some c group holds =
    let ledger : LedgerView = record { fleet = c.self.inside.fleet.now; down = c.self.inside.marks.items } in
    let host = c.args.share.host.index in
    let own : List ℕ = group_numbers c.chain.result.now in
    let marked : is_marked ledger.down host ≡ true = subst (λ (v : LedgerView). is_marked v.down host ≡ true) (sym c.self.view_is) c.requires in
    let rises = Ascends-rising (length ledger.fleet.groups) own c.chain.ensures.rise in
    let inside : group < length ledger.fleet.groups = (has_number-within group 0 (length ledger.fleet.groups) own rises holds).1 in
    let here : has_number group (list_at ledger.fleet.chains host) ≡ true = sym (ap (has_number group) c.chain.ensures.chain) ∙ holds in
    subst (λ (l : List ℕ). 0 < get_or l group 0) (sym c.deref_mut.ensures.value) (some_counted ledger c.self.inside.counts.items c.self.invariant host group marked here inside)

pub invariant_of-self : goal.invariant_of-self
invariant_of-self c =
    let ledger : LedgerView = record { fleet = c.self.inside.fleet.now; down = c.self.inside.marks.items } in
    let counts : List ℕ = c.self.inside.counts.items in
    let new : List ℕ = c.lower_counts.new.counts in
    let own : List ℕ = group_numbers c.chain.result.now in
    let long : length new ≡ length counts = c.lower_counts.auto.counts ∙ ap length c.deref_mut.ensures.value in
    let items : take c.self.inside.counts.len (new ++ drop (length new) counts) ≡ new = with_items_is c.self.inside.counts new (omega (arith, long, c.self.inside.counts.ok)) in
    let host = c.args.share.host.index in
    let marked : is_marked ledger.down host ≡ true = subst (λ (v : LedgerView). is_marked v.down host ≡ true) (sym c.self.view_is) c.requires in
    let within : host < length ledger.fleet.hosts = omega (arith, marked_within ledger.down host marked, c.self.invariant.all_marked) in
    let lowered : (group : ℕ) → group < length counts → get_or new group 0 + cond (has_number group (list_at ledger.fleet.chains host)) 1 0 ≡ get_or counts group 0 =
    λ group l. sym (ap (λ (k : List ℕ). get_or new group 0 + cond (has_number group k) 1 0) c.chain.ensures.chain)
    ∙ c.lower_counts.ensures group (omega (arith, l, ap length c.deref_mut.ensures.value))
    ∙ ap (λ (k : List ℕ). get_or k group 0) c.deref_mut.ensures.value in
    subst (λ (l : List ℕ). IsCounted (with_mark ledger host false) l) (sym items) (given_back_counted ledger counts new c.self.invariant host within long marked lowered)
