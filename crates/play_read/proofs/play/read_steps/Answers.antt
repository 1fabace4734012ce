use Rattle.std.proofs.Common.{◌≡◌, ◌+◌, ◌++◌, [], List, length, map, refl, sym, ap, ◌∙◌, subst, arith}
use Rattle.serde_json.specs.Data.{Data}
use Rattle.serde_json.specs.Find.{get}
use Rattle.serde_json.specs.View.{view}
use Rattle.group_tree.specs.Names.{Name}
use Rattle.playbook_schema.specs.Breaches.{Check}
use Rattle.playbook_schema.specs.Checks.{AllKept}
use Rattle.playbook_schema.specs.Keys.{handlers_key}
use Rattle.playbook_schema.specs.Known.{known}
use Rattle.playbook_schema.specs.Places.{play_path}
use Rattle.playbook_schema.specs.Plays.{are_readable, checks_of_handlers, checks_of_tasks, handler_names, handlers_in, tasks_in}
use Rattle.playbook_schema.specs.Steps.{handler_of, step_of}
use Rattle.playbook_schema.proofs.AddLaws.{adds_two}
use Rattle.playbook_schema.proofs.CheckLaws.{kept_parts}
use Rattle.play_read.specs.Reads.{AreSteps}
use Rattle.play_read.proofs.Lists.{as_many}
use Rattle.play_read.proofs.Listed.{names_are, steps_are}
use Rattle.play_read.proofs.play.read_steps.Goals as goal

pub read_handlers-requires-clause-few : goal.read_handlers-requires-clause-few
read_handlers-requires-clause-few c =
    let play = view c.args.play.now in
    omega (arith, c.requires, as_many view c.tasks_of-given.result.now (tasks_in play) c.tasks_of-given.ensures, as_many view c.handlers_of-listed.result.now (handlers_in play) c.handlers_of-listed.ensures)

pub read_tasks-requires : goal.read_tasks-requires
read_tasks-requires c =
    let play = view c.args.play.now in
    omega (arith, c.requires, c.len.ensures, c.in_ok-handlers.ensures.many, as_many view c.tasks_of-given.result.now (tasks_in play) c.tasks_of-given.ensures, as_many view c.handlers_of-listed.result.now (handlers_in play) c.handlers_of-listed.ensures)

pub returns-clause-found : goal.returns-clause-found
returns-clause-found c =
    let at = play_path c.args.place in
    let told = c.args.place.told in
    let tasks = c.tasks_of-given.result.now in
    let handlers = c.handlers_of-listed.result.now in
    let names = known c.read_handlers.new.names in
    adds_two [] _ _ _ (checks_of_handlers at told (length tasks + 1) 0 [] (map view handlers)) (checks_of_tasks at told 0 c.are_readable-readable.result names (map view tasks)) _
    c.in_ok-handlers.ensures.found c.in_ok-tasks.ensures.found
    (steps_are at told (view c.args.play.now) tasks handlers (length tasks) c.are_readable-readable.result names refl c.tasks_of-given.ensures c.handlers_of-listed.ensures c.are_readable-readable.ensures c.in_ok-handlers.ensures.names)

pub returns-clause-says : goal.returns-clause-says
returns-clause-says c = λ kept.
    let at = play_path c.args.place in
    let told = c.args.place.told in
    let play = view c.args.play.now in
    let tasks = c.tasks_of-given.result.now in
    let handlers = c.handlers_of-listed.result.now in
    let names = known c.read_handlers.new.names in
    let whole = steps_are at told play tasks handlers (length tasks) c.are_readable-readable.result names refl c.tasks_of-given.ensures c.handlers_of-listed.ensures c.are_readable-readable.ensures c.in_ok-handlers.ensures.names in
    let both = kept_parts (checks_of_handlers at told (length tasks + 1) 0 [] (map view handlers)) (checks_of_tasks at told 0 c.are_readable-readable.result names (map view tasks)) (subst AllKept (sym whole) kept) in
    record {
      tasks =
          subst (λ (list : List Data). AreSteps (map (step_of (handler_names play)) list) c.in_ok-tasks.tasks.items) c.tasks_of-given.ensures
          (subst (λ (list : List Name). AreSteps (map (step_of list) (map view tasks)) c.in_ok-tasks.tasks.items) (names_are play handlers names c.handlers_of-listed.ensures c.in_ok-handlers.ensures.names)
          (c.in_ok-tasks.ensures.says both.1));
      handlers = subst (λ (list : List Data). AreSteps (map handler_of list) c.in_ok-handlers.handlers.items) c.handlers_of-listed.ensures (c.in_ok-handlers.ensures.says both.0);
    }
