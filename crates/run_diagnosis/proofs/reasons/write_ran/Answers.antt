use Rattle.std.proofs.Common.{ℕ, List, refl, subst}
use Rattle.std.proofs.Math.Facts.{to_z-of_z}
use Rattle.bounded_io.specs.Writing.{Writes}
use Rattle.bounded_io.proofs.Pieces.{writes_four}
use Rattle.run_diagnosis.proofs.reasons.write_ran.Goals as goal

pub returns : goal.returns
returns g c =
    let same = to_z-of_z c.ranges.rc in
    let integer = rw same at c.write_integer.ensures in
    let meaning = rw (same, c.calls_ssh.ensures) at c.meaning_of.ensures in
    let judged = rw same at c.judged_by.ensures in
    writes_four _ _ _ _ _ _ _ _ _ _ _ c.write_str.ensures integer
    (subst (λ (l : List ℕ). Writes g.W.Write.contents c.write_integer.new.text c.write_str-2.new.self l) meaning c.write_str-2.ensures)
    (subst (λ (l : List ℕ). Writes g.W.Write.contents c.write_str-2.new.self c.write_str-3.new.self l) judged c.write_str-3.ensures) refl
