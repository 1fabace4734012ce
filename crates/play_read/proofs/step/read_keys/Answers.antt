use Rattle.std.proofs.Common.{◌++◌, map, rules}
use Rattle.serde_json.specs.View.{view}
use Rattle.playbook_schema.specs.Breaches.{Broken}
use Rattle.playbook_schema.specs.Conditions.{checks_at}
use Rattle.playbook_schema.specs.Keys.{when_key, changed_key, failed_key}
use Rattle.playbook_schema.specs.Places.{step_spot}
use Rattle.playbook_schema.specs.Steps.{bad_ignore, checks_of_head, condition_checks}
use Rattle.playbook_schema.proofs.CheckLaws.{kept_parts}
use Rattle.play_read.proofs.step.read_keys.Goals as goal

pub returns-clause-says : goal.returns-clause-says
returns-clause-says c = λ kept.
    let spot = step_spot c.args.place in
    let step = view c.args.step.now in
    let later = (kept_parts (checks_of_head c.args.place.list spot step) (condition_checks spot step ++ map Broken (bad_ignore step)) kept).1 in
    let conditions = (kept_parts (condition_checks spot step) (map Broken (bad_ignore step)) later).0 in
    let when = kept_parts (checks_at spot when_key step) (checks_at spot changed_key step ++ checks_at spot failed_key step) conditions in
    let others = kept_parts (checks_at spot changed_key step) (checks_at spot failed_key step) when.1 in
    let read = c.in_ok-read_conditions.ensures in
    record {
      name = search rules;
      words = search rules;
      register = search rules;
      when = read.when when.0;
      changed_when = read.changed_when others.0;
      failed_when = read.failed_when others.1;
      ignore_errors = search rules;
      notify = search rules;
    }
