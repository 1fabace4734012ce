use Rattle.std.proofs.Common.{refl}
use Rattle.bounded_io.proofs.Pieces.{writes_four}
use Rattle.json_output.proofs.plan.write_blocked.Goals as goal

pub returns : goal.returns
returns g c =
    writes_four _ c.args.text.now c.write_str.new.self c.write_quoted.new.text c.write_field.new.text c.write_str-2.new.self _ _ _ _ _ c.write_str.ensures c.write_quoted.ensures c.write_field.ensures
    c.write_str-2.ensures refl
