use Rattle.bounded_io.proofs.Pieces.{writes_six}
use Rattle.journal.proofs.LineLemmas.{line_pieces}
use Rattle.journal.proofs.checked_line.write_line.Goals as goal

pub returns : goal.returns
returns g c =
    writes_six _ _ _ _ _ _ _ _ _ _ _ _ _ _ _ c.write_number.ensures c.write_str.ensures c.write_number-2.ensures c.write_str-2.ensures c.write_bytes.ensures c.write_str-3.ensures
    (line_pieces c.args.body.now c.weigh.result c.weigh.ensures)
