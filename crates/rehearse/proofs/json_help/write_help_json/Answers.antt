use Rattle.std.proofs.Common.{refl}
use Rattle.bounded_io.proofs.Pieces.{writes_four}
use Rattle.rehearse.proofs.json_help.write_help_json.Goals as goal

pub returns : goal.returns
returns g c =
    writes_four g.W.Write.contents _ _ _ _ _ _ _ _ _ _ c.write_str.ensures c.write_changing.ensures c.write_asking.ensures c.write_str-2.ensures refl
