use Rattle.std.proofs.Common.{refl}
use Rattle.bounded_io.proofs.Pieces.{writes_five}
use Rattle.rehearse.proofs.json_help.write_changing.Goals as goal

pub returns : goal.returns
returns g c =
    writes_five g.W.Write.contents _ _ _ _ _ _ _ _ _ _ _ _ c.write_str.ensures c.write_str-2.ensures c.write_str-3.ensures c.write_str-4.ensures c.write_str-5.ensures refl
