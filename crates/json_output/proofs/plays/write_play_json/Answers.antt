use Rattle.std.proofs.Common.{refl}
use Rattle.bounded_io.proofs.Pieces.{writes_eight}
use Rattle.json_output.proofs.plays.write_play_json.Goals as goal

pub returns : goal.returns
returns g c =
    writes_eight _ c.args.text.now c.write_field.new.text c.write_str.new.self c.write_boundaries.new.text c.write_str-2.new.self c.write_hosts.new.text c.write_str-3.new.self c.write_run_end.new.text
    c.write_str-4.new.self _ _ _ _ _ _ _ _ _ c.write_field.ensures c.write_str.ensures c.write_boundaries.ensures c.write_str-2.ensures c.write_hosts.ensures c.write_str-3.ensures c.write_run_end.ensures
    c.write_str-4.ensures refl
