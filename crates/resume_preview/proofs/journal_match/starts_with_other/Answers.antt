use Rattle.std.proofs.Common.{◌≡◌, Bool, true, false, not, ◌++◌, ◌+◌, drop, refl, sym, ap, ◌∙◌}
use Rattle.std.specs.List.{prefix_len}
use Rattle.std.proofs.lemmas.List.{take-append-drop}
use Rattle.journal.specs.Lines.{is_feed}
use Rattle.journal.specs.Shown.{shown_journal}
use Rattle.resume_preview.proofs.journal_match.starts_with_other.Goals as goal

not_true : (b : Bool) → not b ≡ true → b ≡ false
not_true false is = refl
not_true true is = absurd (cc)

pub returns-in-Ok : goal.returns-in-Ok
returns-in-Ok c = λ other.
    let text = c.args.text.now in
    let front = c.first_line.result.now in
    let count = prefix_len (λ byte. not (is_feed byte)) text + 1 in
    record {
      front = front;
      behind = drop count text;
      parts = sym (take-append-drop count text) ∙ ap (λ l. l ++ drop count text) (sym c.first_line.ensures);
      state = shown_journal c.in-Ok.begun;
      reads = c.in-Ok.ensures.ok;
      other = sym c.began_with.ensures ∙ not_true c.began_with.result other;
    }
