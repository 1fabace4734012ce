use Rattle.std.proofs.Common.{◌≡◌, ◌++◌, map, take}
use Rattle.lint_rules.specs.Notes.{seen}
use Rattle.lint_command.proofs.near.add_all.Given as goal

abbrev pub invariant-loop-note : goal.invariant-loop-note
invariant-loop-note l = l.changed ≡ l.initial.changed ++ map seen (take l.note-index l.notes)
