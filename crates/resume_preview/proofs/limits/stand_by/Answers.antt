use Rattle.std.proofs.Common.{ap, ◌∙◌, List}
use Rattle.domains.specs.Ids.{host_numbers}
use Rattle.journal.specs.Shown.{shown_journal}
use Rattle.journal.specs.States.{JournalState, resumes}
use Rattle.resume_preview.proofs.TableLemmas.{journal_refused, names_refused}
use Rattle.resume_preview.proofs.limits.stand_by.Goals as goal

pub returns-in-Err-clause-err : goal.returns-in-Err-clause-err
returns-in-Err-clause-err c =
    names_refused c.args.fleet.now c.args.inventory.now c.args.wish.journal.now c.args.wish.mended.now c.args.wish.takes_others c.in-Err.fault c.in-Err.ensures.err

pub returns-in-Err-read_begun-clause-err : goal.returns-in-Err-read_begun-clause-err
returns-in-Err-read_begun-clause-err c =
    journal_refused c.args.fleet.now c.args.inventory.now c.args.wish.journal.now c.args.wish.mended.now c.args.wish.takes_others (host_numbers c.in-Ok.mended.items) c.in-Ok.ensures.ok
    c.in-Err-read_begun.fault c.in-Err-read_begun.ensures.err

pub returns-in-Ok-resumed-clause-ok : goal.returns-in-Ok-resumed-clause-ok
returns-in-Ok-resumed-clause-ok c =
    let state = shown_journal c.in-Ok-read_begun.journal in
    record {
      mended = host_numbers c.in-Ok.mended.items;
      named = c.in-Ok.ensures.ok;
      state = state;
      begun = c.in-Ok-read_begun.ensures.ok;
      left = ap (λ (s : JournalState). s.statuses) (c.in-Ok-resumed.ensures ∙ ap (λ l. resumes state (host_numbers l)) c.as_slice.ensures.value);
    }
