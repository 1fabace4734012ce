use Rattle.std.proofs.Common.{◌+◌, length, map, refl, ap, take, ◌∙◌, arith}
use Rattle.bounded_io.proofs.WritingLemmas.{writes_two}
use Rattle.lint_rules.specs.Notes.{isnt_allowed, seen, told, warnings}
use Rattle.lint_rules.proofs.ToldLemmas.{count_told, lines_told}
use Rattle.lint_rules.proofs.told.write_lines.Goals as goal

pub loop-note-preserved : goal.loop-note-preserved
loop-note-preserved g c =
    let tells = isnt_allowed c.args.allowed.now in
    let notes = c.args.notes.now in
    let place = c.loop-note.note-index in
    let told_now = c.write_told-count in
    let before = length (warnings (told tells (map seen (take place notes)))) in
    record {
      writes = writes_two _ c.args.text.now c.loop-note.text told_now.new.text _ _ _ c.loop-note.invariant.writes told_now.ensures.writes
          (lines_told tells notes place _ _ c.loop-note-test.true refl);
      count = ap (λ n. n + told_now.result) c.loop-note.invariant.count ∙ ap (λ n. before + n) told_now.ensures.count
          ∙ count_told tells notes place _ _ c.loop-note-test.true refl;
      within = omega (arith, c.loop-note.invariant.within, told_now.ensures.few);
    }
