use Rattle.std.proofs.Common.{◌++◌, map, ap}
use Rattle.serde_json.specs.View.{view}
use Rattle.playbook_schema.specs.Breaches.{Broken}
use Rattle.playbook_schema.specs.Known.{known}
use Rattle.playbook_schema.specs.Places.{step_path, step_spot}
use Rattle.playbook_schema.specs.Steps.{bad_notify, checks_of_step, missing_handlers}
use Rattle.playbook_schema.specs.declared.place.StepList.{StepList}
use Rattle.playbook_schema.proofs.AddLaws.{adds_two}
use Rattle.playbook_schema.proofs.CheckLaws.{kept_parts}
use Rattle.play_read.proofs.tasks.read_one.Goals as goal

pub returns-clause-says : goal.returns-clause-says
returns-clause-says c = λ kept.
    let task = view c.args.task.now in
    let handlers = c.args.handlers.now in
    let own = checks_of_step c.args.place.list (step_spot c.args.place) task in
    let is = c.in_ok-read_step.ensures.says
    (kept_parts own (map Broken (bad_notify task) ++ map Broken (missing_handlers handlers.readable (known handlers.names) task)) (rw c.requires.task kept)).0 in
    record {
      name = is.name;
      words = is.words;
      register = is.register;
      when = is.when;
      changed_when = is.changed_when;
      failed_when = is.failed_when;
      ignore_errors = is.ignore_errors;
      notify = c.in_ok-numbers.ensures.says;
    }

pub returns-clause-found : goal.returns-clause-found
returns-clause-found c =
    let task = view c.args.task.now in
    let handlers = c.args.handlers.now in
    let spot = step_spot c.args.place in
    let later = map Broken (bad_notify task) ++ map Broken (missing_handlers handlers.readable (known handlers.names) task) in
    adds_two (step_path c.args.place) _ _ _ (checks_of_step c.args.place.list spot task) later _ c.in_ok-read_step.ensures.found c.in_ok-numbers.ensures.found
    (ap (λ (list : StepList). checks_of_step list spot task ++ later) c.requires.task)
