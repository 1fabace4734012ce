use Rattle.std.proofs.Common.{ℕ, refl, sym, subst}
use Rattle.bounded_io.specs.Writing.{Writes}
use Rattle.bounded_io.proofs.Pieces.{writes_four}
use Rattle.fleet_states.proofs.HostLemmas.{length-host_numbers}
use Rattle.run_diagnosis.specs.LeftOut.{more_text, stay_text}
use Rattle.run_diagnosis.proofs.notes.write_note.Goals as goal

pub returns : goal.returns
returns g c =
    let long = sym (length-host_numbers c.args.hosts.now) in
    writes_four _ _ _ _ _ _ _ _ _ _ _ c.write_str.ensures c.write_names.ensures
    (subst (λ (n : ℕ). Writes g.W.Write.contents c.write_names.new.text c.write_more.new.text (more_text n)) long c.write_more.ensures)
    (subst (λ (n : ℕ). Writes g.W.Write.contents c.write_more.new.text c.write_stay.new.text (stay_text c.args.several n)) long c.write_stay.ensures) refl
