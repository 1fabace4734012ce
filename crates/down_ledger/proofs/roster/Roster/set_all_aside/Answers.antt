use Rattle.std.proofs.Common.{◌≡◌, ℕ, ◌<◌, true, List, length, get_or, set, take, sym, ap, ◌∙◌, refl, subst, arith}
use Rattle.std.proofs.lemmas.List.{take_all}
use Rattle.group_tree.specs.declared.ids.HostId.{HostId}
use Rattle.domains.specs.Ids.{host_numbers}
use Rattle.fleet_states.specs.declared.status.Status.{Status}
use Rattle.fleet_states.specs.declared.status.Status.TheVariants.{Held}
use Rattle.fleet_states.specs.Statuses.{changed, is_waiting, status_at}
use Rattle.fleet_states.proofs.HostLemmas.{length-host_numbers}
use Rattle.fleet_states.proofs.StatusLemmas.{changed_more_host, changed_none, waiting_within}
use Rattle.down_ledger.specs.Rosters.{RosterView}
use Rattle.down_ledger.proofs.HoldingLemmas.{waits_beside, waits_here}
use Rattle.down_ledger.proofs.roster.Roster.set_all_aside.Goals as goal

pub loop-place-init : goal.loop-place-init
loop-place-init c =
    let old = c.args.self.now in
    ap (λ (l : List Status). record old { statuses = l }) (sym (changed_none (λ _. Held) old.statuses))

pub set_aside-requires : goal.set_aside-requires
set_aside-requires c =
    let none : HostId = record { index = 0 } in
    let hosts = c.args.hosts.now in
    let i = c.loop-place.place in
    ap (λ (v : RosterView). is_waiting (status_at v.statuses (get_or hosts i none).index)) c.loop-place.invariant
    ∙ waits_beside c.args.self.now.statuses hosts c.requires i none c.loop-place-test.true

pub loop-place-preserved : goal.loop-place-preserved
loop-place-preserved c =
    let none : HostId = record { index = 0 } in
    let old = c.args.self.now in
    let hosts = c.args.hosts.now in
    let i = c.loop-place.place in
    let within = c.loop-place-test.true in
    let host : ℕ = (get_or hosts i none).index in
    let inside = waiting_within old.statuses host (waits_here old.statuses hosts c.requires i none within) in
    c.set_aside.ensures
    ∙ ap (λ (v : RosterView). record v { statuses = set v.statuses host Held }) c.loop-place.invariant
    ∙ ap (λ (l : List Status). record old { statuses = l }) (changed_more_host hosts i none within (λ _. Held) old.statuses Held inside refl)

pub returns : goal.returns
returns c =
    let numbers : List ℕ = host_numbers c.args.hosts.now in
    let old = c.args.self.now in
    let all : take c.loop-place.place numbers ≡ numbers = take_all c.loop-place.place numbers (omega (arith, length-host_numbers c.args.hosts.now)) in
    c.loop-place.invariant ∙ ap (λ (l : List ℕ). record old { statuses = changed (λ _. Held) l old.statuses }) all
