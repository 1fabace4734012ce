use Rattle.std.proofs.Common.{List, ℕ, sym, subst}
use Rattle.std.proofs.lemmas.List.Folds.{flat_map-map}
use Rattle.bounded_io.specs.Writing.{Writes}
use Rattle.group_tree.specs.declared.ids.HostId.{HostId}
use Rattle.rehearse.specs.Stacks.{top}
use Rattle.rehearse.specs.Hosts.{member_line}
use Rattle.rehearse.proofs.hosts.write_members.Goals as goal

pub returns : goal.returns
returns g c =
    subst (λ (l : List ℕ). Writes g.W.Write.contents c.args.text.now c.write_each_member.new.text l)
    (sym (flat_map-map (member_line c.args.rehearsal.now.rules.fleet (top c.args.rehearsal.now)) (λ (host : HostId). host.index) c.args.hosts.now)) c.write_each_member.ensures
