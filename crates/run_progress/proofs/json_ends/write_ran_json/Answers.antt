use Rattle.std.proofs.Common.{refl}
use Rattle.std.proofs.Math.Facts.{to_z-of_z}
use Rattle.bounded_io.proofs.Pieces.{writes_four}
use Rattle.run_progress.specs.JsonRows.{code_json, ran_json, signal_json, took_json, undefined_json}
use Rattle.run_progress.specs.Rows.{name_in}
use Rattle.run_progress.proofs.json_ends.write_ran_json.Goals as goal

pub returns : goal.returns
returns g c =
    let given = c.args.end.now.given.now in
    let unknown = name_in c.args.end.now.undefined in
    let same = to_z-of_z c.ranges.rc in
    let code = rw same at c.write_code_json.ensures in
    writes_four _ _ _ _ _ _ (code_json c.args.rc) (signal_json given.remark) (undefined_json unknown) (took_json given.milliseconds) (ran_json c.args.rc unknown given)
    code c.write_signal_json.ensures c.write_undefined_json.ensures c.write_took_json.ensures refl
