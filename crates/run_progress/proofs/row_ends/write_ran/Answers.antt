use Rattle.std.proofs.Common.{refl}
use Rattle.std.proofs.Math.Facts.{to_z-of_z}
use Rattle.bounded_io.proofs.Pieces.{writes_four}
use Rattle.run_progress.specs.Rows.{code_text, name_in, ran_text, signal_text, took_text, undefined_text}
use Rattle.run_progress.proofs.row_ends.write_ran.Goals as goal

pub returns : goal.returns
returns g c =
    let given = c.args.end.now.given.now in
    let unknown = name_in c.args.end.now.undefined in
    let same = to_z-of_z c.ranges.rc in
    let code = rw same at c.write_code.ensures in
    writes_four _ _ _ _ _ _ (code_text c.args.rc) (signal_text given.remark) (undefined_text unknown) (took_text given.milliseconds) (ran_text c.args.rc unknown given)
    code c.write_signal.ensures c.write_undefined.ensures c.write_took.ensures refl
