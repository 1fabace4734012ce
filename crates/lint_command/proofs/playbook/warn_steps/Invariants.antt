use Rattle.std.proofs.Common.{◌≡◌, ◌||◌, ◌++◌, drop, take}
use Rattle.group_tree.specs.Names.{Name}
use Rattle.result_dependencies.specs.Registers.{is_registered_by}
use Rattle.step_lints.specs.Inside.{crowd_of, foreseen_in, has_name}
use Rattle.lint_command.specs.Playbooks.{all_noted, step_notes, steps_notes}
use Rattle.lint_command.proofs.playbook.warn_steps.Given as goal

abbrev pub invariant-loop-place : goal.invariant-loop-place
invariant-loop-place l = record {
  notes : l.notes
      ++ all_noted (step_notes (has_name l.initial.registered) (crowd_of l.crowd) (foreseen_in l.registry.fleet.now l.registry.plays.now l.crowd.lacks.now.vars.now l.numbered.number) l.numbered.number l.numbered.play.now)
      l.place (drop l.place l.steps)
      ≡ l.initial.notes
      ++ steps_notes (has_name l.initial.registered) (crowd_of l.crowd) (foreseen_in l.registry.fleet.now l.registry.plays.now l.crowd.lacks.now.vars.now l.numbered.number) l.numbered.number l.numbered.play.now;
  registered : (name : Name) → has_name l.registered name ≡ (has_name l.initial.registered name || is_registered_by (take l.place l.steps) name);
}
