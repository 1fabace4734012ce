use Rattle.std.proofs.Common.{◌≡◌, ℕ, List, ◌++◌, length, flat_map, get_or, sym, subst, arith}
use Rattle.std.proofs.lemmas.List.{get_or-map}
use Rattle.std.specs.List.{range_with_len}
use Rattle.bounded_io.specs.Writing.{Writes}
use Rattle.bounded_io.proofs.WritingLemmas.{writes_two}
use Rattle.group_tree.specs.declared.ids.HostId.{HostId}
use Rattle.domains.specs.Ids.{host_numbers}
use Rattle.domains.specs.Numbered.{host_at}
use Rattle.fleet_states.proofs.HostLemmas.{length-host_numbers}
use Rattle.recap.proofs.PlanLemmas.{lines_more}
use Rattle.run_diagnosis.specs.Nexts.{gap_text}
use Rattle.run_diagnosis.proofs.next.write_up.Goals as goal

pub loop-place-preserved : goal.loop-place-preserved
loop-place-preserved g c =
    let fleet = c.args.fleet.now in
    let number : HostId → ℕ = λ host. host.index in
    let piece : ℕ → List ℕ = λ place. gap_text place ++ host_at fleet.hosts (get_or (host_numbers c.args.hosts.now) place 0) in
    let i : ℕ = c.loop-place.place in
    writes_two _ c.args.text.now c.loop-place.text c.write_name.new.text _ (piece i) _ c.loop-place.invariant
    (subst (λ (n : ℕ). Writes g.W.Write.contents c.loop-place.text c.write_name.new.text (gap_text i ++ host_at fleet.hosts n)) (sym (get_or-map number c.args.hosts.now i _ 0 c.loop-place-test.true)) c.write_name.ensures) (lines_more piece i)

pub returns : goal.returns
returns g c =
    let fleet = c.args.fleet.now in
    let piece : ℕ → List ℕ = λ place. gap_text place ++ host_at fleet.hosts (get_or (host_numbers c.args.hosts.now) place 0) in
    let all : c.loop-place.place ≡ length (host_numbers c.args.hosts.now) =
    omega (arith, length-host_numbers c.args.hosts.now, c.loop-place.auto.place-end, c.loop-place-test.false) in
    subst (λ (n : ℕ). Writes g.W.Write.contents c.args.text.now c.loop-place.text (flat_map piece (range_with_len 0 n))) all c.loop-place.invariant
