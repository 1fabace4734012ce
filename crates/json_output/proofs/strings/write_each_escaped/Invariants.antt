use Rattle.std.proofs.Common.{flat_map, take}
use Rattle.bounded_io.specs.Writing.{Writes}
use Rattle.recap.specs.Printable.{printable}
use Rattle.json_output.specs.Strings.{escaped}
use Rattle.json_output.proofs.strings.write_each_escaped.Given as goal

abbrev pub invariant-loop-byte : goal.invariant-loop-byte
invariant-loop-byte g l =
    Writes g.W.Write.contents l.initial.text l.text (flat_map (λ byte. escaped (printable byte)) (take l.byte-index l.bytes))
