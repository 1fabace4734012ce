use Rattle.std.proofs.Common.{◌≡◌, ◌≤◌, flat_map, length, map, take}
use Rattle.bounded_io.specs.Writing.{Writes}
use Rattle.lint_rules.specs.Notes.{isnt_allowed, seen, told, warnings}
use Rattle.lint_rules.specs.NoteLines.{note_line}
use Rattle.lint_rules.proofs.told.write_lines.Given as goal

abbrev pub invariant-loop-note : goal.invariant-loop-note
invariant-loop-note g l = record {
  writes : Writes g.W.Write.contents l.initial.text l.text (flat_map note_line (told (isnt_allowed l.allowed) (map seen (take l.note-index l.notes))));
  count : l.count ≡ length (warnings (told (isnt_allowed l.allowed) (map seen (take l.note-index l.notes))));
  within : l.count ≤ l.note-index;
}
