use Rattle.std.proofs.Common.{refl}
use Rattle.bounded_io.proofs.Pieces.{writes_three}
use Rattle.run_command.proofs.objects.write_runs_json.Goals as goal

pub returns : goal.returns
returns g c = writes_three _ c.args.text.now c.write_str.new.self c.write_array.new.text c.write_str-2.new.self _ _ _ _ c.write_str.ensures c.write_array.ensures c.write_str-2.ensures refl
