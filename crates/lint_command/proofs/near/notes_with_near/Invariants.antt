use Rattle.std.proofs.Common.{◌≡◌, map, take}
use Rattle.step_lints.specs.Inside.{names_of}
use Rattle.lint_command.specs.Near.{with_near}
use Rattle.lint_rules.specs.Notes.{seen}
use Rattle.lint_command.proofs.near.notes_with_near.Given as goal

abbrev pub invariant-loop-note : goal.invariant-loop-note
invariant-loop-note l = l.changed ≡ map (with_near (names_of l.names)) (map seen (take l.note-index l.notes))
