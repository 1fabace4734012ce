use Rattle.std.proofs.Common.{arith, refl}
use Rattle.bounded_io.proofs.Pieces.{writes_each}
use Rattle.recap.specs.Printable.{printable}
use Rattle.json_output.specs.Strings.{escaped}
use Rattle.json_output.proofs.strings.write_each_escaped.Goals as goal

pub loop-byte-preserved : goal.loop-byte-preserved
loop-byte-preserved g c =
    writes_each _ (λ byte. escaped (printable byte)) c.args.bytes.now c.loop-byte.byte-index _ _ _ _ _ c.loop-byte.invariant c.write_byte.ensures refl (omega arith)
