use Rattle.std.proofs.Common.{refl}
use Rattle.bounded_io.proofs.WritingLemmas.{writes_two}
use Rattle.run_command.proofs.objects.write_entry.Goals as goal

pub returns : goal.returns
returns g c = writes_two _ c.args.text.now c.write_comma.new.text c.write_play_json.new.text _ _ _ c.write_comma.ensures c.write_play_json.ensures refl
