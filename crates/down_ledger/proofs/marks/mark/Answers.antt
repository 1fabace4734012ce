use Rattle.std.proofs.Common.{◌≡◌, ℕ, ◌<◌, true, false, ◌&&◌, List, length, get_or, set, take, sym, ap, ◌∙◌, refl, arith}
use Rattle.std.proofs.lemmas.List.{take-map}
use Rattle.group_tree.specs.declared.ids.HostId.{HostId}
use Rattle.fleet_index.specs.NumberLists.{are_below}
use Rattle.fleet_states.specs.declared.status.Status.{Status}
use Rattle.fleet_states.specs.declared.status.Status.TheVariants.{Running, Waiting}
use Rattle.domains.specs.Ids.{host_numbers}
use Rattle.fleet_states.specs.Statuses.{changed, is_waiting, status_at}
use Rattle.fleet_states.proofs.HostLemmas.{length-host_numbers, number_of_host}
use Rattle.fleet_states.proofs.ReadyLemmas.{are_ready_more, given_back, ready_below}
use Rattle.fleet_states.proofs.StatusLemmas.{changed_more_host, changed_none, length-changed, waiting_within}
use Rattle.down_ledger.proofs.MarkLemmas.{first_unready}
use Rattle.down_ledger.proofs.marks.mark.Goals as goal

pub loop-place-init : goal.loop-place-init
loop-place-init c = record { statuses = sym (changed_none (λ _. Running) c.args.statuses.now); ready = refl }

pub set_all-requires : goal.set_all-requires
set_all-requires c =
    let statuses = c.args.statuses.now in
    let hosts = c.args.hosts.now in
    let i = c.loop-place.place in
    let invariant = c.loop-place.invariant in
    let front : List ℕ = take i (host_numbers hosts) in
    let fronts : front ≡ host_numbers (take i hosts) = take-map (λ (host : HostId). host.index) i hosts in
    let same : length c.loop-place.statuses ≡ length statuses = ap length invariant.statuses ∙ length-changed (λ _. Running) front statuses in
    ap (λ (n : ℕ). are_below n (host_numbers (take i hosts))) same ∙ ap (are_below (length statuses)) (sym fronts) ∙ ready_below statuses front invariant.ready

pub returns-then-not-is_waiting : goal.returns-then-not-is_waiting
returns-then-not-is_waiting c =
    let statuses = c.args.statuses.now in
    let hosts = c.args.hosts.now in
    let i = c.loop-place.place in
    let invariant = c.loop-place.invariant in
    let none : HostId = record { index = 0 } in
    let host : ℕ = (get_or hosts i none).index in
    let front : List ℕ = take i (host_numbers hosts) in
    let running : List Status = changed (λ _. Running) front statuses in
    let was : is_waiting (status_at c.loop-place.statuses host) ≡ false = sym (ap is_waiting c.status_of.ensures) ∙ sym c.is_waiting.ensures ∙ c.if-not-is_waiting.true in
    let busy : is_waiting (status_at running host) ≡ false = sym (ap (λ (l : List Status). is_waiting (status_at l host)) invariant.statuses) ∙ was in
    let named : get_or (host_numbers hosts) i 0 ≡ host = number_of_host hosts i none c.loop-place-test.true in
    let fronts : front ≡ host_numbers (take i hosts) = take-map (λ (host : HostId). host.index) i hosts in
    let first = first_unready statuses (host_numbers hosts) i host (omega (arith, length-host_numbers hosts)) named invariant.ready busy in
    let back = c.set_all.ensures ∙ ap (λ (l : List Status). changed (λ _. Waiting) (host_numbers (take i hosts)) l) invariant.statuses in
    (first, back ∙ ap (λ (l : List ℕ). changed (λ _. Waiting) l running) (sym fronts) ∙ given_back statuses front invariant.ready)

pub bounds-statuses-host : goal.bounds-statuses-host
bounds-statuses-host c =
    let statuses = c.args.statuses.now in
    let hosts = c.args.hosts.now in
    let i = c.loop-place.place in
    let invariant = c.loop-place.invariant in
    let none : HostId = record { index = 0 } in
    let host : ℕ = (get_or hosts i none).index in
    let was : is_waiting (status_at c.loop-place.statuses host) ≡ true = sym (ap is_waiting c.status_of.ensures) ∙ sym c.is_waiting.ensures ∙ c.if-not-is_waiting.false in
    waiting_within c.loop-place.statuses host was

pub loop-place-preserved : goal.loop-place-preserved
loop-place-preserved c =
    let statuses = c.args.statuses.now in
    let hosts = c.args.hosts.now in
    let i = c.loop-place.place in
    let invariant = c.loop-place.invariant in
    let none : HostId = record { index = 0 } in
    let host : ℕ = (get_or hosts i none).index in
    let front : List ℕ = take i (host_numbers hosts) in
    let running : List Status = changed (λ _. Running) front statuses in
    let was : is_waiting (status_at c.loop-place.statuses host) ≡ true = sym (ap is_waiting c.status_of.ensures) ∙ sym c.is_waiting.ensures ∙ c.if-not-is_waiting.false in
    let waits : is_waiting (status_at running host) ≡ true = sym (ap (λ (l : List Status). is_waiting (status_at l host)) invariant.statuses) ∙ was in
    let within : host < length statuses = omega (arith, waiting_within running host waits, length-changed (λ _. Running) front statuses) in
    let named : get_or (host_numbers hosts) i 0 ≡ host = number_of_host hosts i none c.loop-place-test.true in
    let more = are_ready_more statuses (host_numbers hosts) i (omega (arith, length-host_numbers hosts)) in
    let grown = changed_more_host hosts i none c.loop-place-test.true (λ _. Running) statuses Running within refl in
    record {
      statuses = ap (λ (l : List Status). set l host Running) invariant.statuses ∙ grown;
      ready = more ∙ ap (λ b. b && is_waiting (status_at running (get_or (host_numbers hosts) i 0))) invariant.ready ∙ ap (λ (h : ℕ). is_waiting (status_at running h)) named ∙ waits;
    }
