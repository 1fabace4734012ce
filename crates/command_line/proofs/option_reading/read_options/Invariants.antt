use Rattle.std.proofs.Common.{◌≡◌, length, map, string_bytes}
use Rattle.command_line.specs.OptionReads.{given_as, read}
use Rattle.command_line.proofs.ReadingLemmas.{joined, left}
use Rattle.command_line.proofs.option_reading.read_options.Given as goal

abbrev pub invariant-loop-word : goal.invariant-loop-word
invariant-loop-word l =
    joined (map string_bytes l.plain.items) (map given_as l.given.items) (left l.options l.in_front (map string_bytes l.left)) ≡ read l.options (map string_bytes l.words)

abbrev pub decreases-loop-word : goal.decreases-loop-word
decreases-loop-word l = length l.left
