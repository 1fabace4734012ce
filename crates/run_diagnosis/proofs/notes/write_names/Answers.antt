use Rattle.std.proofs.Common.{ℕ, List, sym, ap, subst, map, ◌∙◌}
use Rattle.std.proofs.lemmas.List.{take-map}
use Rattle.std.proofs.lemmas.List.Folds.{flat_map-map}
use Rattle.bounded_io.specs.Writing.{Writes}
use Rattle.group_tree.specs.declared.ids.HostId.{HostId}
use Rattle.recap.specs.PlanText.{names_text, spaced_name}
use Rattle.run_diagnosis.proofs.notes.write_names.Goals as goal

pub returns : goal.returns
returns g c =
    let fleet = c.args.fleet.now in
    let number : HostId → ℕ = λ host. host.index in
    let hosts = c.args.hosts.now in
    subst (λ (l : List ℕ). Writes g.W.Write.contents c.args.text.now c.write_each_name.new.text l)
    (sym (flat_map-map (spaced_name fleet) number c.first_hosts.result.now)
    ∙ ap (λ (l : List HostId). names_text fleet (map number l)) c.first_hosts.ensures ∙ ap (names_text fleet) (sym (take-map number 10 hosts)))
    c.write_each_name.ensures
