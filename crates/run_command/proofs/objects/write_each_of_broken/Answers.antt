use Rattle.std.proofs.Common.{◌≡◌, ℕ, ◌+◌, ◌++◌, ◌∷◌, [], List, length, map, nat_lt, sym, ap, ◌∙◌, subst}
use Rattle.std.proofs.lemmas.List.{length-map}
use Rattle.bounded_io.specs.Writing.{Writes}
use Rattle.bounded_io.proofs.WritingLemmas.{writes_two}
use Rattle.roll_run.specs.declared.run.Run.{Run}
use Rattle.recap.specs.RecapText.{text_by_place}
use Rattle.json_output.specs.Arrays.{comma_if, entries_text}
use Rattle.json_output.specs.PlayJson.{PlayFacts, play_json}
use Rattle.json_output.proofs.ArrayLemmas.{pushed}
use Rattle.run_command.specs.Recaps.{broken_facts, fault_facts, run_facts}
use Rattle.run_command.proofs.objects.write_each_of_broken.Goals as goal

pub returns : goal.returns
returns g c =
    let done : List Run = c.as_slice-done.result.now in
    let all : List PlayFacts = map run_facts done in
    let last : PlayFacts = fault_facts c.args.fault.now.last in
    let piece : ℕ → PlayFacts → List ℕ = λ place facts. comma_if (nat_lt 0 place) ++ play_json c.args.fleet.now (c.args.plays_before + place + 1) facts in
    let entry = subst (λ (facts : PlayFacts). Writes g.W.Write.contents c.write_each_run.new.text c.write_entry.new.text (piece (length done) facts)) c.recap_of_fault-last.ensures c.write_entry.ensures in
    let many : length all ≡ length done = length-map done run_facts in
    let whole : text_by_place piece 0 all ++ piece (length done) last ≡ text_by_place piece 0 (all ++ last ∷ []) = sym (pushed piece all last ∙ ap (λ n. text_by_place piece 0 all ++ piece n last) many) in
    let written = writes_two _ c.args.text.now c.write_each_run.new.text c.write_entry.new.text _ (piece (length done) last) _ c.write_each_run.ensures entry whole in
    subst (λ (runs : List Run). Writes g.W.Write.contents c.args.text.now c.write_entry.new.text
    (entries_text (λ place facts. play_json c.args.fleet.now (c.args.plays_before + place + 1) facts) (broken_facts runs c.args.fault.now.last))) c.as_slice-done.ensures.value written
