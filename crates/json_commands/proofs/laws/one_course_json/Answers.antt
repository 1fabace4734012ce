use Rattle.json_commands.proofs.UniqueLemmas.{one_course_json}
use Rattle.json_commands.proofs.laws.one_course_json.Goals as goal

pub returns : goal.returns
returns c = one_course_json
