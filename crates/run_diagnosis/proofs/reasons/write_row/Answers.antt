use Rattle.std.proofs.Common.{refl}
use Rattle.bounded_io.proofs.Pieces.{writes_five}
use Rattle.run_diagnosis.proofs.reasons.write_row.Goals as goal

pub returns : goal.returns
returns g c =
    writes_five _ _ _ _ _ _ _ _ _ _ _ _ _ c.write_play.ensures (rw c.number_of.ensures at c.write_field.ensures) c.write_step.ensures c.write_str.ensures c.write_reason.ensures refl
