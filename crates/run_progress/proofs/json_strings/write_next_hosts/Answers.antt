use Rattle.std.proofs.Common.{ℕ, List, sym, subst}
use Rattle.std.proofs.lemmas.List.Folds.{flat_map-map}
use Rattle.bounded_io.specs.Writing.{Writes}
use Rattle.group_tree.specs.declared.ids.HostId.{HostId}
use Rattle.run_progress.specs.JsonStrings.{next_host}
use Rattle.run_progress.proofs.json_strings.write_next_hosts.Goals as goal

pub returns : goal.returns
returns g c =
    subst (λ (l : List ℕ). Writes g.W.Write.contents c.args.text.now c.write_each_host.new.text l) (sym (flat_map-map (next_host c.args.fleet.now) (λ (host : HostId). host.index) c.args.hosts.now)) c.write_each_host.ensures
