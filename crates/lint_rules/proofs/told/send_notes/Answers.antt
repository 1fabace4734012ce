use Rattle.std.proofs.Common.{ℕ, Err, List, Ok, Option, Result, rules, subst}
use Rattle.bounded_io.specs.declared.write_fault.WriteFault.{WriteFault}
use Rattle.lint_rules.specs.Notes.{isnt_allowed}
use Rattle.lint_rules.specs.NotesText.{IsNotesText, SendsSuch}
use Rattle.lint_rules.specs.declared.end.LintEnd.{LintEnd}
use Rattle.lint_rules.proofs.ToldLemmas.{sent_first, sent_whole}
use Rattle.lint_rules.proofs.told.send_notes.Goals as goal

pub returns-in-Ok-clause-text : goal.returns-in-Ok-clause-text
returns-in-Ok-clause-text g c =
    let given = rw (c.as_slice.ensures) at c.write_notes-end.ensures.writes in
    let end : Result LintEnd WriteFault = Ok c.write_notes-end.result in
    let sent = sent_whole g.W.Write.contents _ c.new-text.result _ _ _ c.new-text.ensures given c.write_notes-end.result c.in-Ok.ensures.finishes in
    let same = given.writes.same_reference in
    let Is : Option (List ℕ) → Type 0 = λ (new : Option (List ℕ)). SendsSuch (g.W.Write.contents c.args.out.now) new (IsNotesText (isnt_allowed c.args.allowed.now) c.args.notes.now) end in
    subst Is (search (rules, same)) sent

pub returns-in-Err-clause-text : goal.returns-in-Err-clause-text
returns-in-Err-clause-text g c =
    let given = rw (c.as_slice.ensures) at c.write_notes-end.ensures.writes in
    let end : Result LintEnd WriteFault = Err c.in-Err.fault in
    let sent = sent_first g.W.Write.contents _ c.new-text.result _ _ _ c.new-text.ensures given c.in-Err.fault c.in-Err.ensures.finishes in
    let same = given.writes.same_reference in
    let Is : Option (List ℕ) → Type 0 = λ (new : Option (List ℕ)). SendsSuch (g.W.Write.contents c.args.out.now) new (IsNotesText (isnt_allowed c.args.allowed.now) c.args.notes.now) end in
    subst Is (search (rules, same)) sent
