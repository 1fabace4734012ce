use Rattle.std.proofs.Common.{refl}
use Rattle.bounded_io.proofs.Pieces.{writes_four}
use Rattle.run_diagnosis.proofs.down.write_failed.Goals as goal

pub returns : goal.returns
returns g c = writes_four _ _ _ _ _ _ _ _ _ _ _ c.write_str.ensures c.write_str-2.ensures c.write_failing.ensures c.write_str-3.ensures refl
