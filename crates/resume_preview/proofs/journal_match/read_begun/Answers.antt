use Rattle.std.proofs.Common.{[], sym, ◌∙◌}
use Rattle.std.proofs.lemmas.Bool.{both_ways}
use Rattle.std.proofs.lemmas.List.{append-nil}
use Rattle.journal.specs.Shown.{shown_journal}
use Rattle.resume_preview.proofs.journal_match.read_begun.Goals as goal
use Rattle.resume_preview.proofs.journal_match.read_begun.Goals.{then-takes_others, else-takes_others}

pub returns-in-Ok-2-clause-err : goal.returns-in-Ok-2-clause-err
returns-in-Ok-2-clause-err c =
    elim c.if-takes_others.branch [
      | then-takes_others w ↦ absurd (both_ways c.if-takes_others.value c.if-began_with.false (w.value-is ∙ w.if-takes_others.true))
      | else-takes_others w ↦ (
        w.if-takes_others.false,
        record {
          front = c.args.text.now;
          behind = [];
          parts = sym (append-nil c.args.text.now);
          state = shown_journal c.in-Ok.journal;
          reads = c.in-Ok.ensures.ok;
          other = sym w.began_with.ensures ∙ sym w.value-is ∙ c.if-began_with.false;
        },
      )
    ]
