use Rattle.std.proofs.Common.{◌+◌, map, take}
use Rattle.bounded_io.specs.Writing.{Writes}
use Rattle.json_output.specs.Arrays.{entries_text}
use Rattle.json_output.specs.PlayJson.{play_json}
use Rattle.run_command.specs.Recaps.{run_facts}
use Rattle.run_command.proofs.objects.write_each_run.Given as goal

abbrev pub invariant-loop-place : goal.invariant-loop-place
invariant-loop-place g l =
    Writes g.W.Write.contents l.initial.text l.text (entries_text (λ place facts. play_json l.fleet (l.plays_before + place + 1) facts) (map run_facts (take l.place l.runs)))
