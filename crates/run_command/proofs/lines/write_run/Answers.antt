use Rattle.std.proofs.Common.{subst}
use Rattle.bounded_io.specs.Writing.{Writes}
use Rattle.json_output.specs.PlayJson.{PlayFacts}
use Rattle.run_command.specs.Recaps.{facts_text, headed}
use Rattle.run_command.proofs.lines.write_run.Goals as goal

pub returns : goal.returns
returns g c =
    subst (λ (facts : PlayFacts). Writes g.W.Write.contents c.args.text.now c.write_one.new.text (headed c.args.several c.args.number (facts_text c.args.fleet.now facts))) c.recap_of.ensures c.write_one.ensures
