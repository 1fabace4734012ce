use Rattle.std.proofs.Common.{◌≡◌, map, take, string_bytes}
use Rattle.hints.specs.Lines.{printable}
use Rattle.hints.proofs.line.print.Given as goal

-- the bytes so far
abbrev pub invariant-loop-byte : goal.invariant-loop-byte
invariant-loop-byte l = string_bytes l.text ≡ map printable (take l.byte-index l.bytes)
