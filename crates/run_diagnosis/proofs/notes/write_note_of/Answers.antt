use Rattle.std.proofs.Common.{◌≡◌, Bool, false, eqb, List, [], ◌∷◌, length, refl, sym, subst, ◌∙◌}
use Rattle.bounded_io.specs.Writing.{Writes}
use Rattle.group_tree.specs.declared.ids.HostId.{HostId}
use Rattle.domains.specs.FleetViews.{FleetView}
use Rattle.domains.specs.Ids.{host_numbers}
use Rattle.run_diagnosis.specs.LeftOut.{note_of, note_text}
use Rattle.run_diagnosis.proofs.notes.write_note_of.Goals as goal

some_noted : (fleet : FleetView) (several : Bool) (hosts : List HostId) → eqb (length hosts) 0 ≡ false
    → note_text fleet several (host_numbers hosts) ≡ note_of fleet several (host_numbers hosts)
some_noted fleet several [] is = cc
some_noted fleet several (host ∷ hosts) is = refl

pub returns-then-not-is_empty : goal.returns-then-not-is_empty
returns-then-not-is_empty g c =
    subst (Writes g.W.Write.contents c.args.text.now c.write_note.new.text)
    (some_noted c.args.fleet.now c.args.several c.args.hosts.now (sym c.is_empty.ensures ∙ c.if-not-is_empty.true)) c.write_note.ensures
