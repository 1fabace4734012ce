use Rattle.std.proofs.Common.{◌≡◌, ◌++◌, ℕ, List, drop}
use Rattle.bounded_io.specs.Writing.{Writes}
use Rattle.terminal_text.specs.Texts.{byte_in, mark_in, text_by, text_in}
use Rattle.terminal_text.proofs.text.write_text.Given as goal

abbrev pub invariant-loop-place : goal.invariant-loop-place
invariant-loop-place g l = record {
  written : List ℕ;
  wrote : Writes g.W.Write.contents l.initial.text l.text written;
  rest : written ++ text_by (mark_in l.layout) (byte_in l.layout) l.left (drop l.place l.bytes) ≡ text_in l.layout l.bytes;
}
