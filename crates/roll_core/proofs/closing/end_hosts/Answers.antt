use Rattle.std.proofs.Common.{◌≡◌, ℕ, true, false, List, get_or, take, ap, ◌∙◌, subst, arith}
use Rattle.std.proofs.lemmas.List.{take_all}
use Rattle.group_tree.specs.declared.ids.HostId.{HostId}
use Rattle.domains.specs.Ids.{host_numbers}
use Rattle.fleet_states.specs.declared.status.Status.{Status}
use Rattle.fleet_states.specs.Statuses.{status_at}
use Rattle.fleet_states.proofs.HostLemmas.{length-host_numbers, number_of_host}
use Rattle.fleet_states.proofs.NumberLemmas.{number_at}
use Rattle.down_ledger.specs.Rosters.{HasChanged, seated_at}
use Rattle.down_ledger.proofs.OpeningLemmas.{seated_within, still_seated}
use Rattle.down_ledger.proofs.RosterLemmas.{none_changed, stepped}
use Rattle.event_log.specs.States.{at_rest}
use Rattle.roll_core.proofs.ClosingLemmas.{again, still_down}
use Rattle.roll_core.proofs.closing.end_hosts.Goals as goal

pub loop-host-init : goal.loop-host-init
loop-host-init c = none_changed c.args.roster.now (at_rest c.args.halt) false

pub end_host-requires-clause-rests : goal.end_host-requires-clause-rests
end_host-requires-clause-rests c =
    still_seated c.args.roster.now c.loop-host.roster c.args.hosts.now c.loop-host.host-index (record { index = 0 }) (at_rest c.args.halt)
    c.loop-host-test.true c.requires.distinct c.requires.rest c.loop-host.invariant

pub end_host-requires-clause-was : goal.end_host-requires-clause-was
end_host-requires-clause-was c =
    still_down c.args.roster.now c.loop-host.roster c.args.hosts.now c.loop-host.host-index (record { index = 0 }) c.args.halt c.loop-host-test.true
    c.requires.all c.requires.distinct c.requires.rest c.requires.down c.loop-host.invariant

pub loop-host-preserved : goal.loop-host-preserved
loop-host-preserved c =
    let old = c.args.roster.now in
    let now = c.loop-host.roster in
    let hosts = c.args.hosts.now in
    let i = c.loop-host.host-index in
    let halt = c.args.halt in
    let none : HostId = record { index = 0 } in
    let host : ℕ = (get_or hosts i none).index in
    let within = c.loop-host-test.true in
    let named : get_or (host_numbers hosts) i 0 ≡ host = number_of_host hosts i none within in
    let rest = subst (λ (n : ℕ). seated_at old.seated n ≡ true) named
    (c.requires.rest (get_or (host_numbers hosts) i 0) (number_at (host_numbers hosts) i (omega (arith, within, length-host_numbers hosts)))) in
    let inside = seated_within old host c.requires.all rest in
    let seen : at_rest halt (status_at now.statuses host) ≡ at_rest halt (status_at old.statuses host) =
    ap (λ (l : List Status). at_rest halt (status_at l host)) c.loop-host.invariant.statuses
    ∙ again halt (take i (host_numbers hosts)) old.statuses host inside in
    stepped old now hosts i none within (at_rest halt) false c.loop-host.invariant c.requires.all inside (at_rest halt (status_at now.statuses host)) seen c.end_host.new.roster c.end_host.ensures

pub returns : goal.returns
returns c =
    let numbers : List ℕ = host_numbers c.args.hosts.now in
    let all : take c.loop-host.host-index numbers ≡ numbers = take_all c.loop-host.host-index numbers (omega (arith, length-host_numbers c.args.hosts.now)) in
    subst (λ (l : List ℕ). HasChanged c.args.roster.now c.loop-host.roster l (at_rest c.args.halt) false) all c.loop-host.invariant
