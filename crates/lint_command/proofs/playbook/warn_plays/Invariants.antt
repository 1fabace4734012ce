use Rattle.std.proofs.Common.{◌≡◌, ◌++◌, None, drop, take}
use Rattle.std.specs.Prelude.{slice_index_or}
use Rattle.group_tree.specs.Names.{Name}
use Rattle.play_model.specs.declared.play.Play.{Play}
use Rattle.result_dependencies.specs.Registers.{is_registered_in}
use Rattle.step_lints.specs.Inside.{foreseen_in, has_missed, has_name, value_in}
use Rattle.lint_command.specs.Playbooks.{all_noted, play_notes, plays_notes}
use Rattle.lint_command.proofs.playbook.warn_plays.Given as goal

abbrev pub invariant-loop-number : goal.invariant-loop-number
invariant-loop-number l = record {
  notes : l.notes
      ++ all_noted (λ number (play : Play). play_notes l.scene.fleet.now (value_in l.scene.vars.now) (has_missed l.scene.given.now) (foreseen_in l.scene.registry.now.fleet.now l.scene.registry.now.plays.now l.scene.vars.now number)
      (is_registered_in (take number l.plays)) (slice_index_or l.sizes number None) number play) l.number (drop l.number l.plays)
      ≡ l.initial.notes
      ++ plays_notes l.scene.fleet.now (value_in l.scene.vars.now) (has_missed l.scene.given.now) (foreseen_in l.scene.registry.now.fleet.now l.scene.registry.now.plays.now l.scene.vars.now) l.sizes l.plays;
  registered : (name : Name) → has_name l.registered name ≡ is_registered_in (take l.number l.plays) name;
}
