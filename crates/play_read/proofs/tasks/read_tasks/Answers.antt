use Rattle.std.proofs.Common.{◌+◌, [], List, map, take, drop, ap}
use Rattle.std.proofs.lemmas.List.{drop_all}
use Rattle.serde_json.specs.View.{view}
use Rattle.serde_json.specs.declared.value.Value.{Value}
use Rattle.playbook_schema.specs.Breaches.{all_in}
use Rattle.playbook_schema.specs.Known.{known}
use Rattle.playbook_schema.specs.Paths.{task_path}
use Rattle.playbook_schema.specs.Places.{play_path}
use Rattle.playbook_schema.specs.Plays.{checks_of_tasks, spot_at}
use Rattle.playbook_schema.specs.Steps.{checks_of_task, step_of}
use Rattle.playbook_schema.proofs.AddLaws.{adds_inside, kept_one, leads_end, leads_on}
use Rattle.playbook_schema.proofs.CheckLaws.{kept_from}
use Rattle.play_read.specs.Readings.{IsStep}
use Rattle.play_read.proofs.Lists.{left_at, taken_at, all_zip_more}
use Rattle.play_read.proofs.tasks.read_tasks.Goals as goal

pub loop-index-preserved : goal.loop-index-preserved
loop-index-preserved c =
    let l = c.loop-index in
    let at = play_path c.args.play in
    let told = c.args.play.told in
    let tasks = c.args.tasks.now in
    let task = c.index-tasks-index.result in
    let readable = c.args.handlers.now.readable in
    let names = known c.args.handlers.now.names in
    let left = left_at view tasks l.index task c.loop-index-test.true c.index-tasks-index.is in
    let taken = taken_at view tasks l.index task c.loop-index-test.true c.index-tasks-index.is in
    let path = task_path at l.index in
    let own = checks_of_task readable names (spot_at told (l.index + 1)) (view task) in
    let rest = checks_of_tasks at told (l.index + 1) readable names (map view (drop (l.index + 1) tasks)) in
    let split = ap (checks_of_tasks at told l.index readable names) left in
    let read = c.in-Ok.ensures in
    record {
      found = leads_on [] _ _ _ _ l.invariant.found c.read_one.new.faults (all_in path own) rest split (adds_inside path _ _ own read.found);
      says = λ kept.
          all_zip_more IsStep (step_of names) (map view (take l.index tasks)) _ l.steps.items _ (view task) c.read_one.new.into taken c.in_ok-push-in-Ok.ensures.items (l.invariant.says kept)
          (read.says (kept_from path own (kept_one [] _ _ _ _ l.invariant.found (all_in path own) rest split kept)));
    }

pub returns-clause-found : goal.returns-clause-found
returns-clause-found c =
    let l = c.loop-index in
    leads_end [] _ _ _ _ l.invariant.found
    (ap (λ (list : List Value). checks_of_tasks (play_path c.args.play) c.args.play.told l.index c.args.handlers.now.readable (known c.args.handlers.now.names) (map view list)) (drop_all l.index c.args.tasks.now c.loop-index-test.false))
