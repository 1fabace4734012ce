use Rattle.std.proofs.Common.{ℕ, ◌+◌, ◌++◌, List, map, nat_lt, subst}
use Rattle.std.proofs.lemmas.List.{take_all}
use Rattle.bounded_io.specs.Writing.{Writes}
use Rattle.bounded_io.proofs.WritingLemmas.{writes_two}
use Rattle.roll_run.specs.declared.run.Run.{Run}
use Rattle.json_output.specs.Arrays.{comma_if, entries_text}
use Rattle.json_output.specs.PlayJson.{PlayFacts, play_json}
use Rattle.json_output.proofs.ArrayLemmas.{mapped_more}
use Rattle.run_command.specs.Recaps.{run_facts}
use Rattle.run_command.proofs.objects.write_each_run.Goals as goal

pub loop-place-preserved : goal.loop-place-preserved
loop-place-preserved g c =
    let piece : ℕ → PlayFacts → List ℕ = λ place facts. comma_if (nat_lt 0 place) ++ play_json c.args.fleet.now (c.args.plays_before + place + 1) facts in
    let i : ℕ = c.loop-place.place in
    let run : Run = c.index-runs-place.result in
    let entry = subst (λ (facts : PlayFacts). Writes g.W.Write.contents c.loop-place.text c.write_entry.new.text (piece i facts)) c.recap_of.ensures c.write_entry.ensures in
    writes_two _ c.args.text.now c.loop-place.text c.write_entry.new.text _ (piece i (run_facts run)) _ c.loop-place.invariant entry
    (mapped_more piece run_facts c.args.runs.now i run run c.loop-place-test.true c.index-runs-place.is)

pub returns : goal.returns
returns g c =
    let all = take_all c.loop-place.place c.args.runs.now c.loop-place-test.false in
    subst (λ (l : List Run). Writes g.W.Write.contents c.args.text.now c.loop-place.text (entries_text (λ place facts. play_json c.args.fleet.now (c.args.plays_before + place + 1) facts) (map run_facts l))) all c.loop-place.invariant
