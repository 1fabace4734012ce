use Rattle.std.proofs.Common.{◌≡◌, ℕ, ◌<◌, ◌∷◌, [], true, false, List, length, get_or, take, cond, sym, ap, ◌∙◌, subst, refl, arith}
use Rattle.std.proofs.lemmas.List.{take-map, take_all}
use Rattle.group_tree.specs.declared.ids.HostId.{HostId}
use Rattle.fleet_index.specs.NumberLists.{has_number}
use Rattle.domains.specs.Ids.{host_numbers}
use Rattle.domains.specs.FleetViews.{FleetView}
use Rattle.fleet_states.specs.declared.status.Status.{Status}
use Rattle.fleet_states.specs.declared.status.Status.TheVariants.{Running, Waiting}
use Rattle.fleet_states.specs.Statuses.{are_distinct, are_ready, changed, is_waiting, status_at}
use Rattle.fleet_states.specs.Groups.{IsSafe, groups_of}
use Rattle.fleet_states.proofs.HostLemmas.{length-host_numbers, number_of_host}
use Rattle.fleet_index.proofs.NumberLemmas.{number_at}
use Rattle.fleet_states.proofs.ReadyLemmas.{ready_waits}
use Rattle.fleet_states.proofs.StatusLemmas.{length-changed, waiting_within}
use Rattle.down_ledger.specs.Rosters.{HasChanged, RosterView, seated_at}
use Rattle.down_ledger.specs.Unfit.{IsFirstFull}
use Rattle.down_ledger.proofs.OpeningLemmas.{falls_short, fits_where_safe, put_back, ready_distinct, ready_step, waits_at}
use Rattle.down_ledger.proofs.RosterLemmas.{none_changed, stepped}
use Rattle.down_ledger.proofs.roster.Roster.take_all.Goals as goal

pub loop-place-init : goal.loop-place-init
loop-place-init c = record { changed = none_changed c.args.self.now (λ _. Running) true; safe = c.requires.safe; ready = refl }

pub take-requires : goal.take-requires
take-requires c =
    let old = c.args.self.now in
    let now = c.loop-place.self in
    let hosts = c.args.hosts.now in
    let numbers : List ℕ = host_numbers hosts in
    let i = c.loop-place.place in
    let within = c.loop-place-test.true in
    let invariant = c.loop-place.invariant in
    let none : HostId = record { index = 0 } in
    let host : ℕ = (get_or hosts i none).index in
    let inside : i < length numbers = omega (arith, within, length-host_numbers hosts) in
    let named : get_or numbers i 0 ≡ host = number_of_host hosts i none within in
    ap (λ (l : List Status). is_waiting (status_at l host)) invariant.changed.statuses
    ∙ ap (λ (n : ℕ). is_waiting (status_at (changed (λ _. Running) (take i numbers) old.statuses) n)) (sym named)
    ∙ waits_at old.statuses numbers c.requires.ready i inside

pub loop-place-preserved : goal.loop-place-preserved
loop-place-preserved c =
    let old = c.args.self.now in
    let now = c.loop-place.self in
    let hosts = c.args.hosts.now in
    let numbers : List ℕ = host_numbers hosts in
    let i = c.loop-place.place in
    let within = c.loop-place-test.true in
    let invariant = c.loop-place.invariant in
    let none : HostId = record { index = 0 } in
    let host : ℕ = (get_or hosts i none).index in
    let inside : i < length numbers = omega (arith, within, length-host_numbers hosts) in
    let named : get_or numbers i 0 ≡ host = number_of_host hosts i none within in
    let waits : is_waiting (status_at old.statuses host) ≡ true = subst (λ (n : ℕ). is_waiting (status_at old.statuses n) ≡ true) named (ready_waits old.statuses numbers (get_or numbers i 0) c.requires.ready (number_at numbers i inside)) in
    record {
      changed = stepped old now hosts i none within (λ _. Running) true invariant.changed c.requires.all (waiting_within old.statuses host waits) Running refl c.take.new.self c.in-Ok.ensures.ok;
      safe = c.in-Ok.ensures.safe;
      ready = ready_step old.statuses numbers c.requires.ready i inside invariant.ready;
    }

pub give_all_back-requires-clause-all : goal.give_all_back-requires-clause-all
give_all_back-requires-clause-all c =
    let old = c.args.self.now in
    let now = c.loop-place.self in
    let hosts = c.args.hosts.now in
    let numbers : List ℕ = host_numbers hosts in
    let i = c.loop-place.place in
    let within = c.loop-place-test.true in
    let invariant = c.loop-place.invariant in
    let none : HostId = record { index = 0 } in
    let host : ℕ = (get_or hosts i none).index in
    let inside : i < length numbers = omega (arith, within, length-host_numbers hosts) in
    let named : get_or numbers i 0 ≡ host = number_of_host hosts i none within in
    let lens : length now.seated ≡ length now.statuses = invariant.changed.len ∙ c.requires.all ∙ sym (ap length invariant.changed.statuses ∙ length-changed (λ _. Running) (take i numbers) old.statuses) in
    subst (λ (v : RosterView). length v.seated ≡ length v.statuses) (sym c.in-Err.ensures.unchanged) lens

pub give_all_back-requires-clause-distinct : goal.give_all_back-requires-clause-distinct
give_all_back-requires-clause-distinct c =
    let old = c.args.self.now in
    let now = c.loop-place.self in
    let hosts = c.args.hosts.now in
    let numbers : List ℕ = host_numbers hosts in
    let i = c.loop-place.place in
    let within = c.loop-place-test.true in
    let invariant = c.loop-place.invariant in
    let none : HostId = record { index = 0 } in
    let host : ℕ = (get_or hosts i none).index in
    let inside : i < length numbers = omega (arith, within, length-host_numbers hosts) in
    let named : get_or numbers i 0 ≡ host = number_of_host hosts i none within in
    ap are_distinct (sym (take-map (λ (h : HostId). h.index) i hosts)) ∙ ready_distinct old.statuses (take i numbers) invariant.ready

pub give_all_back-requires-clause-rest : goal.give_all_back-requires-clause-rest
give_all_back-requires-clause-rest c other here =
    let old = c.args.self.now in
    let now = c.loop-place.self in
    let hosts = c.args.hosts.now in
    let numbers : List ℕ = host_numbers hosts in
    let i = c.loop-place.place in
    let within = c.loop-place-test.true in
    let invariant = c.loop-place.invariant in
    let none : HostId = record { index = 0 } in
    let host : ℕ = (get_or hosts i none).index in
    let inside : i < length numbers = omega (arith, within, length-host_numbers hosts) in
    let named : get_or numbers i 0 ≡ host = number_of_host hosts i none within in
    let front : has_number other (take i numbers) ≡ true = ap (has_number other) (take-map (λ (h : HostId). h.index) i hosts) ∙ here in
    ap (λ (v : RosterView). seated_at v.seated other) c.in-Err.ensures.unchanged
    ∙ invariant.changed.seats other
    ∙ ap (λ b. cond b true (seated_at old.seated other)) front

pub returns-in-Err : goal.returns-in-Err
returns-in-Err c =
    let old = c.args.self.now in
    let now = c.loop-place.self in
    let hosts = c.args.hosts.now in
    let numbers : List ℕ = host_numbers hosts in
    let i = c.loop-place.place in
    let within = c.loop-place-test.true in
    let invariant = c.loop-place.invariant in
    let none : HostId = record { index = 0 } in
    let host : ℕ = (get_or hosts i none).index in
    let inside : i < length numbers = omega (arith, within, length-host_numbers hosts) in
    let named : get_or numbers i 0 ≡ host = number_of_host hosts i none within in
    let group = c.in-Err.group.index in
    let running : List Status = changed (λ _. Running) (take i numbers) old.statuses in
    let fronts : take i numbers ≡ host_numbers (take i hosts) = take-map (λ (h : HostId). h.index) i hosts in
    let Back : RosterView → List ℕ → Type 0 = λ v l. HasChanged v c.give_all_back.new.self l (λ _. Waiting) false in
    let back = subst (λ (v : RosterView). Back v (take i numbers)) c.in-Err.ensures.unchanged (subst (Back c.take.new.self) (sym fronts) c.give_all_back.ensures) in
    let same = put_back old now c.give_all_back.new.self (take i numbers) c.requires.rest invariant.ready invariant.changed back in
    let Full : FleetView → List Status → ℕ → Type 0 = λ fleet l n. IsFirstFull (groups_of fleet) l (n ∷ []) group in
    let by_fleet = subst (λ (f : FleetView). Full f now.statuses host) invariant.changed.fleet c.in-Err.ensures.full in
    let full = subst (Full old.fleet running) (sym named) (subst (λ (l : List Status). Full old.fleet l host) invariant.changed.statuses by_fleet) in
    let safe = subst (λ (l : List Status). IsSafe (groups_of old.fleet) l) invariant.changed.statuses (subst (λ (f : FleetView). IsSafe (groups_of f) now.statuses) invariant.changed.fleet invariant.safe) in
    (falls_short (groups_of old.fleet) old.statuses numbers i group inside c.requires.ready invariant.ready safe full, same)

pub returns : goal.returns
returns c =
    let old = c.args.self.now in
    let now = c.loop-place.self in
    let hosts = c.args.hosts.now in
    let numbers : List ℕ = host_numbers hosts in
    let invariant = c.loop-place.invariant in
    let all : take c.loop-place.place numbers ≡ numbers = take_all c.loop-place.place numbers (omega (arith, length-host_numbers hosts)) in
    let there = subst (λ (l : List ℕ). HasChanged old now l (λ _. Running) true) all invariant.changed in
    let safe = subst (λ (l : List Status). IsSafe (groups_of old.fleet) l) there.statuses (subst (λ (f : FleetView). IsSafe (groups_of f) now.statuses) there.fleet invariant.safe) in
    (fits_where_safe (groups_of old.fleet) old.statuses numbers c.requires.ready safe, there)
