use Rattle.std.proofs.Common.{◌≡◌, ℕ, ◌<◌, true, false, List, length, get_or, take, sym, ap, ◌∙◌, subst, refl, arith}
use Rattle.std.proofs.lemmas.List.{take_all}
use Rattle.group_tree.specs.declared.ids.HostId.{HostId}
use Rattle.fleet_states.specs.declared.status.Status.TheVariants.{Waiting}
use Rattle.domains.specs.Ids.{host_numbers}
use Rattle.fleet_states.proofs.HostLemmas.{length-host_numbers, number_of_host}
use Rattle.fleet_index.proofs.NumberLemmas.{number_at}
use Rattle.down_ledger.specs.Rosters.{HasChanged, seated_at}
use Rattle.down_ledger.proofs.OpeningLemmas.{seated_within, still_seated}
use Rattle.down_ledger.proofs.RosterLemmas.{none_changed, stepped}
use Rattle.down_ledger.proofs.roster.Roster.give_all_back.Goals as goal

pub loop-host-init : goal.loop-host-init
loop-host-init c = none_changed c.args.self.now (λ _. Waiting) false

pub give_back-requires-clause-rests : goal.give_back-requires-clause-rests
give_back-requires-clause-rests c =
    still_seated c.args.self.now c.loop-host.self c.args.hosts.now c.loop-host.host-index (record { index = 0 }) (λ _. Waiting) c.loop-host-test.true c.requires.distinct c.requires.rest c.loop-host.invariant

pub loop-host-preserved : goal.loop-host-preserved
loop-host-preserved c =
    let old = c.args.self.now in
    let hosts = c.args.hosts.now in
    let i = c.loop-host.host-index in
    let none : HostId = record { index = 0 } in
    let within = c.loop-host-test.true in
    let named : get_or (host_numbers hosts) i 0 ≡ (get_or hosts i none).index = number_of_host hosts i none within in
    let rests = subst (λ (n : ℕ). seated_at old.seated n ≡ true) named (c.requires.rest (get_or (host_numbers hosts) i 0) (number_at (host_numbers hosts) i (omega (arith, within, length-host_numbers hosts)))) in
    let inside = seated_within old (get_or hosts i none).index c.requires.all rests in
    stepped old c.loop-host.self hosts i none within (λ _. Waiting) false c.loop-host.invariant c.requires.all inside Waiting refl c.give_back.new.self c.give_back.ensures

pub returns : goal.returns
returns c =
    let numbers : List ℕ = host_numbers c.args.hosts.now in
    let all : take c.loop-host.host-index numbers ≡ numbers = take_all c.loop-host.host-index numbers (omega (arith, length-host_numbers c.args.hosts.now)) in
    subst (λ (l : List ℕ). HasChanged c.args.self.now c.loop-host.self l (λ _. Waiting) false) all c.loop-host.invariant
