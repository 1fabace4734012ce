use Rattle.std.proofs.Common.{◌≡◌, ◌||◌, drop}
use Rattle.std.specs.List.{list_any}
use Rattle.playbook_schema.specs.Commands.{is_quoting}
use Rattle.play_read.proofs.free.has_quoting.Given as goal

abbrev pub invariant-loop-byte : goal.invariant-loop-byte
invariant-loop-byte l = (l.found || list_any is_quoting (drop l.byte-index l.bytes)) ≡ list_any is_quoting l.bytes
