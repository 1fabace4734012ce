use Rattle.std.proofs.Common.{◌++◌, []}
use Rattle.std.specs.Prelude.{codes}
use Rattle.step_lints.specs.Doubts.{condition_notes}
use Rattle.inventory_lints.proofs.NotedLemmas.{two_noted}
use Rattle.step_lints.proofs.condition_rules.warn_conditions.Goals as goal

pub returns : goal.returns
returns c =
    let fleet = c.args.fleet.now in
    let at = c.args.at in
    let step = c.args.step.now in
    let before = c.args.notes.now in
    let first = c.warn_condition.new.notes in
    let second = c.warn_condition-2.new.notes in
    let all = c.warn_condition-3.new.notes in
    let changed = condition_notes fleet [] at (codes "changed_when") step.changed_when in
    let failed = condition_notes fleet [] at (codes "failed_when") step.failed_when in
    two_noted before first all (condition_notes fleet c.args.tasks.now at (codes "when") step.when) (changed ++ failed) c.in_ok-warn_condition.ensures
    (two_noted first second all changed failed c.in_ok-warn_condition-2.ensures c.in_ok-warn_condition-3.ensures)
