use Rattle.std.proofs.Common.{◌≡◌, ℕ, false, eqb, List, [], ◌∷◌, length, refl, sym, subst, ◌∙◌}
use Rattle.bounded_io.specs.Writing.{Writes}
use Rattle.group_tree.specs.declared.ids.HostId.{HostId}
use Rattle.domains.specs.Ids.{host_numbers}
use Rattle.run_diagnosis.specs.Standing.{unless_empty}
use Rattle.run_diagnosis.proofs.standing.write_hosts_line.Goals as goal

some : (hosts : List HostId) (text : List ℕ) → eqb (length hosts) 0 ≡ false → text ≡ unless_empty (host_numbers hosts) text
some [] text is = cc
some (host ∷ hosts) text is = refl

pub returns-then-not-is_empty : goal.returns-then-not-is_empty
returns-then-not-is_empty g c =
    subst (Writes g.W.Write.contents c.args.text.now c.write_some.new.text)
    (some c.args.hosts.now _ (sym c.is_empty.ensures ∙ c.if-not-is_empty.true)) c.write_some.ensures
