use Rattle.std.proofs.Common.{ℕ, List, sym, subst}
use Rattle.std.proofs.lemmas.List.Folds.{flat_map-map}
use Rattle.bounded_io.specs.Writing.{Writes}
use Rattle.group_tree.specs.declared.ids.HostId.{HostId}
use Rattle.recap.specs.PlanText.{spaced_name}
use Rattle.recap.proofs.names.write_names.Goals as goal

pub returns : goal.returns
returns g c =
    subst (λ (l : List ℕ). Writes g.W.Write.contents c.args.text.now c.write_each_name.new.text l) (sym (flat_map-map (spaced_name c.args.fleet.now) (λ (host : HostId). host.index) c.args.hosts.now)) c.write_each_name.ensures
