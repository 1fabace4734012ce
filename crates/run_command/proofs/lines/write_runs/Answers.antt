use Rattle.std.proofs.Common.{ℕ, ◌+◌, List, subst}
use Rattle.std.proofs.lemmas.List.{take_all}
use Rattle.bounded_io.specs.Writing.{Writes}
use Rattle.bounded_io.proofs.WritingLemmas.{writes_two}
use Rattle.recap.proofs.PlaceLemmas.{text_more_from}
use Rattle.roll_run.specs.declared.run.Run.{Run}
use Rattle.run_command.specs.Recaps.{facts_text, headed, run_facts, runs_lines_from}
use Rattle.run_command.proofs.lines.write_runs.Goals as goal

pub loop-place-preserved : goal.loop-place-preserved
loop-place-preserved g c =
    let piece : ℕ → Run → List ℕ = λ place run. headed c.args.several (place + 1) (facts_text c.args.fleet.now (run_facts run)) in
    let i : ℕ = c.loop-place.place in
    writes_two _ c.args.text.now c.loop-place.text c.write_run.new.text _ (piece (c.args.plays_before + i) c.index-runs-place.result) _ c.loop-place.invariant c.write_run.ensures
    (text_more_from piece c.args.plays_before c.args.runs.now i c.index-runs-place.result c.loop-place-test.true c.index-runs-place.is)

pub returns : goal.returns
returns g c =
    let all = take_all c.loop-place.place c.args.runs.now c.loop-place-test.false in
    subst (λ (l : List Run). Writes g.W.Write.contents c.args.text.now c.loop-place.text (runs_lines_from c.args.plays_before c.args.fleet.now c.args.several l)) all c.loop-place.invariant
