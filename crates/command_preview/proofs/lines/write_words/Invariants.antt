use Rattle.std.proofs.Common.{take}
use Rattle.bounded_io.specs.Writing.{Writes}
use Rattle.command_preview.specs.Inside.{texts_of}
use Rattle.command_preview.specs.Lines.{shell_words}
use Rattle.command_preview.proofs.lines.write_words.Given as goal

abbrev pub invariant-loop-word : goal.invariant-loop-word
invariant-loop-word g l =
    Writes g.W.Write.contents l.initial.text l.text (shell_words (take l.word-index (texts_of l.words)))
