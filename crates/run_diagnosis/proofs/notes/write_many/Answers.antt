use Rattle.std.proofs.Common.{ℕ, List, refl, subst}
use Rattle.bounded_io.specs.Writing.{Writes}
use Rattle.bounded_io.proofs.Pieces.{writes_four}
use Rattle.run_diagnosis.proofs.notes.write_many.Goals as goal

pub returns : goal.returns
returns g c =
    writes_four _ _ _ _ _ _ _ _ _ _ _ c.write_field.ensures c.write_str.ensures
    (subst (λ (l : List ℕ). Writes g.W.Write.contents c.write_str.new.self c.write_str-2.new.self l) c.plays_word.ensures c.write_str-2.ensures)
    c.write_str-3.ensures refl
