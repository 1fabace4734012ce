use Rattle.std.proofs.Common.{codes, refl}
use Rattle.std.proofs.Math.Facts.{to_z-of_z}
use Rattle.bounded_io.proofs.WritingLemmas.{writes_two}
use Rattle.recap.specs.Integers.{integer_text}
use Rattle.run_progress.specs.Rows.{code_text}
use Rattle.run_progress.proofs.row_ends.write_code.Goals as goal

pub returns : goal.returns
returns g c =
    let same = to_z-of_z c.ranges.rc in
    let integer = rw same at c.write_integer.ensures in
    writes_two _ _ _ _ (codes " rc=") (integer_text c.args.rc) (code_text c.args.rc) c.write_str.ensures integer refl
