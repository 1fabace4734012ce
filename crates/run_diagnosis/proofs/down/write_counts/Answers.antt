use Rattle.std.proofs.Common.{refl}
use Rattle.bounded_io.proofs.Pieces.{writes_three}
use Rattle.run_diagnosis.proofs.down.write_counts.Goals as goal

pub returns : goal.returns
returns g c = writes_three _ _ _ _ _ _ _ _ _ c.write_field.ensures c.write_field-2.ensures c.write_str.ensures refl
