use Rattle.std.proofs.Common.{◌≡◌, ℕ, ◌+◌, ◌<◌, ◌^◌, true, false, cond, All, List, length, get_or, take, drop, ◌++◌, sym, ap, ◌∙◌, subst, arith}
use Rattle.std.proofs.lemmas.List.{with_items_is}
use Rattle.fleet_index.specs.NumberLists.{has_number, list_at, IsRising}
use Rattle.domains.specs.Ids.{group_numbers}
use Rattle.down_ledger.specs.Ledgers.{LedgerView, HasRoom, is_marked, with_mark}
use Rattle.down_ledger.specs.Inside.{IsCounted}
use Rattle.down_ledger.proofs.LedgerLemmas.{counts_small, length-counts, taken_counted}
use Rattle.down_ledger.proofs.ledger.DownLedger.take.Goals as goal

pub raise_counts-requires-clause-rising : goal.raise_counts-requires-clause-rising
raise_counts-requires-clause-rising c =
    let ledger : LedgerView = record { fleet = c.self.inside.fleet.now; down = c.self.inside.marks.items } in
    let long : length c.deref_mut.result.now ≡ length ledger.fleet.groups = ap length c.deref_mut.ensures.value ∙ length-counts ledger c.self.inside.counts.items c.self.invariant in
    subst (λ (n : ℕ). IsRising n (group_numbers c.chain.result.now)) (sym long) c.chain.ensures.rise

pub raise_counts-requires-clause-small : goal.raise_counts-requires-clause-small
raise_counts-requires-clause-small c =
    let ledger : LedgerView = record { fleet = c.self.inside.fleet.now; down = c.self.inside.marks.items } in
    let lent : c.deref_mut.result.now ≡ c.self.inside.counts.items = c.deref_mut.ensures.value in
    λ group l. subst (λ (n : ℕ). n < 2 ^ 63) (sym (ap (λ (k : List ℕ). get_or k group 0) lent)) (counts_small ledger c.self.inside.counts.items c.self.invariant group 0 (omega (arith, l, ap length lent)))

pub invariant_of-self : goal.invariant_of-self
invariant_of-self c =
    let ledger : LedgerView = record { fleet = c.self.inside.fleet.now; down = c.self.inside.marks.items } in
    let counts : List ℕ = c.self.inside.counts.items in
    let new : List ℕ = c.raise_counts.new.counts in
    let own : List ℕ = group_numbers c.chain.result.now in
    let long : length new ≡ length counts = c.raise_counts.auto.counts ∙ ap length c.deref_mut.ensures.value in
    let items : take c.self.inside.counts.len (new ++ drop (length new) counts) ≡ new = with_items_is c.self.inside.counts new (omega (arith, long, c.self.inside.counts.ok)) in
    let host = c.args.host.index in
    let within : host < length ledger.fleet.hosts = subst (λ (v : LedgerView). host < length v.fleet.hosts) (sym c.self.view_is) c.requires.within in
    let up : is_marked ledger.down host ≡ false = subst (λ (v : LedgerView). is_marked v.down host ≡ false) (sym c.self.view_is) c.requires.up in
    let room : HasRoom ledger host = subst (λ (v : LedgerView). HasRoom v host) (sym c.self.view_is) c.in-None.ensures in
    let raised : (group : ℕ) → group < length counts → get_or new group 0 ≡ get_or counts group 0 + cond (has_number group (list_at ledger.fleet.chains host)) 1 0 =
    λ group l. c.raise_counts.ensures group (omega (arith, l, ap length c.deref_mut.ensures.value))
    ∙ ap (λ (k : List ℕ). get_or k group 0 + cond (has_number group own) 1 0) c.deref_mut.ensures.value
    ∙ ap (λ (k : List ℕ). get_or counts group 0 + cond (has_number group k) 1 0) c.chain.ensures.chain in
    subst (λ (l : List ℕ). IsCounted (with_mark ledger host true) l) (sym items) (taken_counted ledger counts new c.self.invariant host within long up room raised)
