use Rattle.std.proofs.Common.{◌≡◌, drop}
use Rattle.std.specs.List.{list_any}
use Rattle.playbook_schema.specs.Commands.{is_parameter}
use Rattle.play_read.proofs.free.have_parameter.Given as goal

abbrev pub invariant-loop-place : goal.invariant-loop-place
invariant-loop-place l =
    list_any is_parameter l.words ≡ list_any is_parameter (drop l.place l.words)
