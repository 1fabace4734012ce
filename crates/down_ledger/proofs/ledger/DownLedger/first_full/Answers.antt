use Rattle.std.proofs.Common.{◌≡◌, ℕ, List, length, take, sym, ap, ◌∙◌, arith}
use Rattle.std.specs.List.{list_any}
use Rattle.std.proofs.lemmas.List.{length-map, take_all}
use Rattle.group_tree.specs.declared.ids.GroupId.{GroupId}
use Rattle.fleet_index.specs.NumberLists.{list_at}
use Rattle.domains.specs.Ids.{group_numbers}
use Rattle.down_ledger.specs.Ledgers.{LedgerView, is_full}
use Rattle.down_ledger.proofs.LedgerLemmas.{first_full, has_room, none_more}
use Rattle.down_ledger.proofs.ledger.DownLedger.first_full.Goals as goal

pub returns-then-is_full : goal.returns-then-is_full
returns-then-is_full c =
    let chain = c.chain-group-items.result.now in
    let host = c.args.host.index in
    let is : group_numbers chain ≡ list_at c.args.self.now.fleet.chains host = c.chain-group-items.ensures.chain ∙ ap (λ (v : LedgerView). list_at v.fleet.chains host) c.self.view_is in
    let bound = length c.self.inside.fleet.now.groups in
    let full = sym c.is_full.ensures ∙ c.if-is_full.true in
    first_full c.args.self.now host bound chain is c.chain-group-items.ensures.rise c.loop-group.group-index (record { index = 0 }) c.loop-group-test.true c.loop-group.invariant full

pub loop-group-preserved : goal.loop-group-preserved
loop-group-preserved c =
    let chain = c.chain-group-items.result.now in
    let host = c.args.host.index in
    let is : group_numbers chain ≡ list_at c.args.self.now.fleet.chains host = c.chain-group-items.ensures.chain ∙ ap (λ (v : LedgerView). list_at v.fleet.chains host) c.self.view_is in
    let bound = length c.self.inside.fleet.now.groups in
    let room = sym c.is_full.ensures ∙ c.if-is_full.false in
    none_more c.args.self.now host bound chain is c.chain-group-items.ensures.rise c.loop-group.group-index (record { index = 0 }) c.loop-group-test.true c.loop-group.invariant room

pub returns : goal.returns
returns c =
    let chain = c.chain-group-items.result.now in
    let host = c.args.host.index in
    let is : group_numbers chain ≡ list_at c.args.self.now.fleet.chains host = c.chain-group-items.ensures.chain ∙ ap (λ (v : LedgerView). list_at v.fleet.chains host) c.self.view_is in
    let bound = length c.self.inside.fleet.now.groups in
    let long = length-map chain (λ (group : GroupId). group.index) in
    let all : take c.loop-group.group-index (group_numbers chain) ≡ group_numbers chain = take_all c.loop-group.group-index (group_numbers chain) (omega (arith, long)) in
    has_room c.args.self.now host bound chain is c.chain-group-items.ensures.rise (sym (ap (λ (l : List ℕ). list_any (is_full c.args.self.now) l) all) ∙ c.loop-group.invariant)
