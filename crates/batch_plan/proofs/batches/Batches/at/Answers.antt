use Rattle.std.proofs.Common.{rules, ◌≡◌, ◌∙◌, ◌<◌, ◌-◌, ℕ, List, length, take, drop, ap, sym, arith}
use Rattle.std.proofs.lemmas.List.{drop-map, take-map}
use Rattle.group_tree.specs.declared.ids.HostId.{HostId}
use Rattle.domains.specs.Ids.{host_numbers}
use Rattle.fleet_states.proofs.HostLemmas.{length-host_numbers}
use Rattle.fleet_index.specs.Runs.{start_at, end_at}
use Rattle.fleet_index.proofs.RunLemmas.{place_kept, run_lent}
use Rattle.batch_plan.proofs.batches.Batches.at.Goals as goal

pub start_of-requires : goal.start_of-requires
start_of-requires c =
    let inside = place_kept (host_numbers c.self.inside.hosts.items) c.self.inside.ends.items c.args.self.now c.args.place c.self.view_is c.requires in
    omega (arith, inside, ap length c.as_slice-ends.ensures.value)

pub bounds-ends-place : goal.bounds-ends-place
bounds-ends-place c =
    let inside = place_kept (host_numbers c.self.inside.hosts.items) c.self.inside.ends.items c.args.self.now c.args.place c.self.view_is c.requires in
    omega (arith, inside, ap length c.as_slice-ends.ensures.value)

pub offset_bounds-ends-place : goal.offset_bounds-ends-place
offset_bounds-ends-place c =
    let kept = place_kept (host_numbers c.self.inside.hosts.items) c.self.inside.ends.items c.args.self.now c.args.place c.self.view_is c.requires in
    let inside : c.args.place < length c.as_slice-ends.result.now = omega (arith, kept, ap length c.as_slice-ends.ensures.value) in
    search rules

pub part-requires : goal.part-requires
part-requires c =
    let hosts = c.self.inside.hosts.items in
    let inside = place_kept (host_numbers hosts) c.self.inside.ends.items c.args.self.now c.args.place c.self.view_is c.requires in
    let start = ap (λ (ends : List ℕ). start_at ends c.args.place) c.as_slice-ends.ensures.value in
    let end = ap (λ (ends : List ℕ). end_at ends c.args.place) c.as_slice-ends.ensures.value in (
      omega (arith, c.start_of.ensures, start, end, c.self.invariant.rise c.args.place inside),
      omega (arith, end, c.self.invariant.within c.args.place inside, length-host_numbers hosts, ap length c.as_slice.ensures.value),
    )

pub returns : goal.returns
returns c =
    let start = c.start_of.result in
    let end = end_at c.as_slice-ends.result.now c.args.place in
    let numbers : List HostId → List ℕ = host_numbers in
    let number : HostId → ℕ = λ h. h.index in
    let lent : numbers (take (end - start) (drop start c.as_slice.result.now)) ≡ take (end - start) (drop start (numbers c.as_slice.result.now)) =
    sym (take-map number (end - start) (drop start c.as_slice.result.now)) ∙ ap (take (end - start)) (sym (drop-map number start c.as_slice.result.now)) in
    ap numbers c.part.ensures
    ∙ lent
    ∙ ap (λ (hosts : List HostId). take (end - start) (drop start (numbers hosts))) c.as_slice.ensures.value
    ∙ run_lent (numbers c.self.inside.hosts.items) c.self.inside.ends.items c.args.self.now c.args.place start end c.self.view_is c.requires
    (c.start_of.ensures ∙ ap (λ (ends : List ℕ). start_at ends c.args.place) c.as_slice-ends.ensures.value)
    (ap (λ (ends : List ℕ). end_at ends c.args.place) c.as_slice-ends.ensures.value)
