use Rattle.std.proofs.Common.{ℕ, Option, List, rules, subst}
use Rattle.bounded_io.specs.Sending.{SendsText}
use Rattle.run_command.specs.Recaps.{runs_text_from}
use Rattle.run_command.proofs.recaps.send_runs.Goals as goal

pub returns : goal.returns
returns g c =
    let text : List ℕ = runs_text_from c.args.form c.args.plays_before c.args.fleet.now c.args.several c.args.runs.now in
    let told = c.finish.ensures.finishes _ c.new-text.result text c.new-text.ensures c.write_runs_in.ensures in
    let same = c.write_runs_in.ensures.same_reference in
    let Is : Option (List ℕ) → Type 0 = λ (new : Option (List ℕ)). SendsText (g.W.Write.contents c.args.out.now) new text c.finish.result in
    subst Is (search (rules, same)) told
