use Rattle.std.proofs.Common.{◌≡◌, ℕ, List, length, take, true, subst, arith}
use Rattle.std.specs.List.{list_all}
use Rattle.std.proofs.lemmas.List.{take_all}
use Rattle.group_tree.specs.declared.ids.HostId.{HostId}
use Rattle.domains.specs.Ids.{host_numbers}
use Rattle.fleet_states.specs.Groups.{groups_of, lacks_room}
use Rattle.fleet_states.proofs.HostLemmas.{length-host_numbers}
use Rattle.fleet_states.proofs.StatusLemmas.{waiting_within}
use Rattle.down_ledger.proofs.HoldingLemmas.{first_with_room, room_where_fits, stuck_more, stuck_where_full, waits_here}
use Rattle.down_ledger.proofs.roster.Roster.test_stuck.Goals as goal

pub first_full-requires : goal.first_full-requires
first_full-requires c =
    let none : HostId = record { index = 0 } in
    let statuses = c.args.self.now.statuses in
    waiting_within statuses _ (waits_here statuses c.args.hosts.now c.requires c.loop-place.place none c.loop-place-test.true)

pub returns-in-None : goal.returns-in-None
returns-in-None c =
    let none : HostId = record { index = 0 } in
    let statuses = c.args.self.now.statuses in
    let groups = groups_of c.args.self.now.fleet in
    first_with_room statuses c.args.hosts.now c.requires c.loop-place.place none c.loop-place-test.true groups c.loop-place.invariant (room_where_fits groups statuses _ c.in-None.ensures)

pub loop-place-preserved : goal.loop-place-preserved
loop-place-preserved c =
    let none : HostId = record { index = 0 } in
    let statuses = c.args.self.now.statuses in
    let groups = groups_of c.args.self.now.fleet in
    stuck_more statuses c.args.hosts.now c.requires c.loop-place.place none c.loop-place-test.true groups c.loop-place.invariant (stuck_where_full groups statuses _ _ c.in-Some.ensures)

pub returns : goal.returns
returns c =
    let numbers : List ℕ = host_numbers c.args.hosts.now in
    let stuck : List ℕ → Type 0 = λ l. list_all (lacks_room (groups_of c.args.self.now.fleet) c.args.self.now.statuses) l ≡ true in
    let all : take c.loop-place.place numbers ≡ numbers = take_all c.loop-place.place numbers (omega (arith, length-host_numbers c.args.hosts.now)) in
    subst stuck all c.loop-place.invariant
