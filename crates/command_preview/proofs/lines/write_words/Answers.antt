use Rattle.std.proofs.Common.{◌≡◌, ◌++◌, List, ℕ, string_bytes, sym, ap, ◌∙◌, arith}
use Rattle.std.specs.Prelude.{codes}
use Rattle.std.proofs.Math.ListN.{get_or-map}
use Rattle.std.proofs.lemmas.List.{length-map}
use Rattle.bounded_io.proofs.Pieces.{writes_each}
use Rattle.bounded_io.proofs.WritingLemmas.{writes_two}
use Rattle.command_preview.specs.Inside.{texts_of}
use Rattle.terminal_text.specs.Shell.{shell_word}
use Rattle.command_preview.proofs.lines.write_words.Goals as goal

behind_blank : List ℕ → List ℕ
behind_blank word = codes " " ++ shell_word word

pub loop-word-preserved : goal.loop-word-preserved
unfolding behind_blank
loop-word-preserved g c =
    let words = c.args.words.now in
    let word = string_bytes c.word-item.result in
    let i : ℕ = c.loop-word.word-index in
    let same : codes " " ++ shell_word c.as_bytes.result.now ≡ behind_blank word = ap behind_blank c.as_bytes.ensures.value in
    let written = shell_word c.as_bytes.result.now in
    let given = c.loop-word.text in
    let new = c.write_shell_word.new.text in
    let here = writes_two g.W.Write.contents given c.write_str.new.self new (codes " ") written (behind_blank word) c.write_str.ensures c.write_shell_word.ensures same in
    let is = ap string_bytes c.word-item.is ∙ sym (get_or-map string_bytes words i c.word-item.result) in
    writes_each g.W.Write.contents behind_blank (texts_of words) i word word c.args.text.now c.loop-word.text c.write_shell_word.new.text c.loop-word.invariant here is
    (omega (arith, c.loop-word-test.true, length-map words string_bytes))
