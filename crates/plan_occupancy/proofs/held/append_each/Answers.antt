use Rattle.std.proofs.Common.{ℕ, ◌<◌, ◌++◌, ◌∷◌, [], Option, List, append_assoc, get_or, length, map, take, sym, ap, ◌∙◌, arith}
use Rattle.std.proofs.lemmas.List.{map-append, take_more}
use Rattle.group_tree.specs.declared.ids.HostId.{HostId}
use Rattle.domains.specs.Ids.{host_numbers}
use Rattle.fleet_states.proofs.HostLemmas.{length-host_numbers, number_of_host}
use Rattle.run_diagnosis.specs.Fulls.{first_full, is_full}
use Rattle.run_diagnosis.proofs.FullLemmas.{same_first}
use Rattle.std.specs.Prelude.{false, slice_index_or}
use Rattle.plan_occupancy.specs.Inside.{held_view, held_views}
use Rattle.plan_occupancy.specs.Surveys.{HeldView}
use Rattle.plan_occupancy.specs.declared.held.HeldHost.{HeldHost}
use Rattle.plan_occupancy.proofs.held.append_each.Goals as goal

pub loop-host-preserved : goal.loop-host-preserved
loop-host-preserved c =
    let fleet = c.args.fleet.now in
    let statuses = c.args.statuses.now in
    let hosts = c.args.hosts.now in
    let i : ℕ = c.loop-host.host-index in
    let none : HostId = record { index = 0 } in
    let at : HostId = get_or hosts i none in
    let numbers = host_numbers hosts in
    let view : ℕ → HeldView = λ host. record { host = host; group = first_full fleet statuses host } in
    let found : Option ℕ → HeldView = λ group. record { host = at.index; group = group } in
    let within : i < length numbers = omega (arith, c.loop-host-test.true, length-host_numbers hosts) in
    let holds = c.holder.ensures ∙ same_first (λ group. slice_index_or c.args.full.now group false) (is_full fleet statuses) c.requires.full fleet at.index in
    let one : HeldHost = record { host = at; group = c.holder.result } in
    let seen = ap found holds ∙ ap view (sym (number_of_host hosts i none c.loop-host-test.true)) in
    let items = ap held_views c.in_ok-push.ensures.items ∙ map-append held_view c.loop-host.held.items (one ∷ []) in
    let old = held_views c.args.held.now.items in
    let so_far = map view (take i numbers) in
    let more = ap (map view) (take_more numbers i 0 within) ∙ map-append view (take i numbers) (get_or numbers i 0 ∷ []) in
    items ∙ ap (λ (v : HeldView). held_views c.loop-host.held.items ++ v ∷ []) seen ∙ ap (λ (l : List HeldView). l ++ view (get_or numbers i 0) ∷ []) c.loop-host.invariant
    ∙ append_assoc old so_far (view (get_or numbers i 0) ∷ []) ∙ ap (λ (l : List HeldView). old ++ l) (sym more)
