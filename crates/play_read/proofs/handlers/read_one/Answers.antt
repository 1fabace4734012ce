use Rattle.std.proofs.Common.{◌++◌, map, ap}
use Rattle.serde_json.specs.View.{view}
use Rattle.playbook_schema.specs.Breaches.{Broken}
use Rattle.playbook_schema.specs.Known.{known}
use Rattle.playbook_schema.specs.Places.{step_path, step_spot}
use Rattle.playbook_schema.specs.Steps.{checks_of_step, twice_named}
use Rattle.playbook_schema.specs.declared.place.StepList.{StepList}
use Rattle.playbook_schema.proofs.AddLaws.{adds_two}
use Rattle.playbook_schema.proofs.CheckLaws.{kept_parts}
use Rattle.play_read.proofs.handlers.read_one.Goals as goal

pub returns-clause-says : goal.returns-clause-says
returns-clause-says c = λ kept.
    let handler = view c.args.handler.now in
    let own = checks_of_step c.args.place.list (step_spot c.args.place) handler in
    c.in_ok-read_step.ensures.says (kept_parts own (map Broken (twice_named (known c.args.names.now) handler)) (rw c.requires.handler kept)).0

pub returns-clause-found : goal.returns-clause-found
returns-clause-found c =
    let handler = view c.args.handler.now in
    let spot = step_spot c.args.place in
    let later = map Broken (twice_named (known c.args.names.now) handler) in
    adds_two (step_path c.args.place) _ _ _ (checks_of_step c.args.place.list spot handler) later _ c.in_ok-read_step.ensures.found c.in_ok-check_name.ensures.found
    (ap (λ (list : StepList). checks_of_step list spot handler ++ later) c.requires.handler)
