use Rattle.std.proofs.Common.{refl}
use Rattle.bounded_io.proofs.WritingLemmas.{writes_two}
use Rattle.run_diagnosis.proofs.reasons.write_undefined.Goals as goal

pub returns : goal.returns
returns g c = writes_two _ _ _ _ _ _ _ c.write_str.ensures c.write_str-2.ensures refl
