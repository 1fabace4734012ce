use Rattle.std.proofs.Common.{refl}
use Rattle.std.proofs.Math.Facts.{to_z-of_z}
use Rattle.std.specs.Prelude.{decimal, unsigned_abs}
use Rattle.bounded_io.proofs.WritingLemmas.{writes_two}
use Rattle.recap.specs.Integers.{integer_text, sign_text}
use Rattle.recap.proofs.integers.write_integer.Goals as goal

pub returns : goal.returns
returns g c =
    let same = to_z-of_z c.ranges.number in
    let sign = rw same at c.write_sign.ensures in
    let magnitude = rw same at c.write_magnitude.ensures in
    writes_two _ _ _ _ (sign_text c.args.number) (decimal (unsigned_abs c.args.number)) (integer_text c.args.number) sign magnitude refl
