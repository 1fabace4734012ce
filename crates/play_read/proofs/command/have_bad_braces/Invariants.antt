use Rattle.std.proofs.Common.{◌≡◌, drop}
use Rattle.std.specs.List.{list_any}
use Rattle.text_syntax.specs.Words.{has_braces}
use Rattle.play_read.proofs.command.have_bad_braces.Given as goal

abbrev pub invariant-loop-place : goal.invariant-loop-place
invariant-loop-place l =
    list_any has_braces l.words ≡ list_any has_braces (drop l.place l.words)
