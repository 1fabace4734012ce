use Rattle.std.proofs.Common.{inl, inr, refl}
use Rattle.std.proofs.KnownBytes.{Keeps-refl}
use Rattle.roll_run.proofs.Following.{gains_as, gains_none}
use Rattle.rollout.proofs.commands.resume.resume_sources.Goals as goal

pub returns-in-Err-clause-resumes : goal.returns-in-Err-clause-resumes
returns-in-Err-clause-resumes g c =
    gains_none c.args.history c.args.history refl (inl (record {
      fault = c.in-Err.fault;
      is = refl;
      why = inl c.in-Err.ensures.err;
      unwritten = Keeps-refl (g.W.Write.contents c.args.out.now);
      none = refl;
    }))

pub returns-clause-resumes : goal.returns-clause-resumes
returns-clause-resumes g c =
    gains_none c.args.history c.args.history refl (inl (record {
      fault = c.in-Err-read_journal_file.fault;
      is = refl;
      why = inr c.in-Err-read_journal_file.ensures.err;
      unwritten = Keeps-refl (g.W.Write.contents c.args.out.now);
      none = refl;
    }))

pub returns-in-Err-clause-journal : goal.returns-in-Err-clause-journal
returns-in-Err-clause-journal g c = gains_none c.args.history c.args.history refl (inl (refl, refl))

pub returns-clause-journal : goal.returns-clause-journal
returns-clause-journal g c = gains_none c.args.history c.args.history refl (inl (refl, refl))

pub returns-in-Ok-read_journal_file-clause-journal : goal.returns-in-Ok-read_journal_file-clause-journal
returns-in-Ok-read_journal_file-clause-journal g c =
    gains_as c.args.history c.resume_texts.result.1
    (λ logs is. inr (record {
      first = c.in-Ok.texts.0.items;
      second = c.in-Ok.texts.1.items;
      texts = c.in-Ok.ensures.ok;
      is = record { third = c.in-Ok-read_journal_file.journal.items; journal = c.in-Ok-read_journal_file.ensures.ok; is = is };
    }))
    (rw (c.as_slice.ensures.value, c.as_slice-in-Ok-read_journal_file.ensures.value, c.as_slice-in-Ok-read_journal_file-2.ensures.value) at c.resume_texts.ensures.journal)
