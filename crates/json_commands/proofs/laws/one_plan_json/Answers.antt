use Rattle.json_commands.proofs.UniqueLemmas.{one_plan_json}
use Rattle.json_commands.proofs.laws.one_plan_json.Goals as goal

pub returns : goal.returns
returns c = one_plan_json
