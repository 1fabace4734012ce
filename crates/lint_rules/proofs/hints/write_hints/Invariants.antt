use Rattle.std.proofs.Common.{filter, map, take}
use Rattle.lint_rules.specs.Hints.{AreHintLines, has_told}
use Rattle.lint_rules.specs.Kinds.{all_kinds}
use Rattle.lint_rules.specs.Notes.{isnt_allowed, seen}
use Rattle.lint_rules.specs.NotesText.{WritesSuch}
use Rattle.lint_rules.proofs.hints.write_hints.Given as goal

abbrev pub invariant-loop-kind : goal.invariant-loop-kind
invariant-loop-kind g l =
    WritesSuch g.W.Write.contents l.initial.text l.text (AreHintLines (filter (has_told (isnt_allowed l.allowed) (map seen l.notes)) (take l.kind-index all_kinds)))
