use Rattle.std.proofs.Common.{codes, refl}
use Rattle.std.proofs.Math.Facts.{to_z-of_z}
use Rattle.bounded_io.proofs.WritingLemmas.{writes_two}
use Rattle.recap.specs.Integers.{integer_text}
use Rattle.run_progress.specs.JsonRows.{number_json}
use Rattle.run_progress.proofs.json_ends.write_number_json.Goals as goal

pub returns : goal.returns
returns g c =
    let same = to_z-of_z c.ranges.number in
    let integer = rw same at c.write_integer.ensures in
    writes_two _ _ _ _ (codes ",\"signal\":") (integer_text c.args.number) (number_json c.args.number) c.write_str.ensures integer refl
