use Rattle.std.proofs.Common.{inl, refl}
use Rattle.std.proofs.KnownBytes.{Keeps-refl}
use Rattle.roll_run.proofs.Following.{gains_none}
use Rattle.rollout.proofs.commands.resume.resume.Goals as goal

pub returns-in-Some-clause-rolls : goal.returns-in-Some-clause-rolls
returns-in-Some-clause-rolls g c =
    gains_none c.args.history c.args.history refl (inl (record {
      fault = c.in-Some.fault;
      because = c.in-Some.ensures.some;
      is = refl;
      unread = Keeps-refl (g.I.Read.remaining c.args.input.now);
      unwritten = Keeps-refl (g.W.Write.contents c.args.out.now);
      none = refl;
    }))

pub returns-in-Err-clause-rolls : goal.returns-in-Err-clause-rolls
returns-in-Err-clause-rolls g c =
    gains_none c.args.history c.args.history refl (inl (record {
      fault = c.in-Err.fault;
      because = c.in-Err.ensures.err;
      is = refl;
      unread = Keeps-refl (g.I.Read.remaining c.args.input.now);
      unwritten = Keeps-refl (g.W.Write.contents c.args.out.now);
      none = refl;
    }))

pub returns-in-Err-hold_journal-clause-rolls : goal.returns-in-Err-hold_journal-clause-rolls
returns-in-Err-hold_journal-clause-rolls g c =
    gains_none c.args.history c.args.history refl (inl (record {
      fault = c.in-Err-hold_journal.fault;
      because = c.in-Err-hold_journal.ensures;
      is = refl;
      unread = Keeps-refl (g.I.Read.remaining c.args.input.now);
      unwritten = Keeps-refl (g.W.Write.contents c.args.out.now);
      none = refl;
    }))

pub returns-in-Some-clause-journal : goal.returns-in-Some-clause-journal
returns-in-Some-clause-journal g c = gains_none c.args.history c.args.history refl (inl (refl, refl))

pub returns-in-Err-clause-journal : goal.returns-in-Err-clause-journal
returns-in-Err-clause-journal g c = gains_none c.args.history c.args.history refl (inl (refl, refl))

pub returns-in-Err-hold_journal-clause-journal : goal.returns-in-Err-hold_journal-clause-journal
returns-in-Err-hold_journal-clause-journal g c = gains_none c.args.history c.args.history refl (inl (refl, refl))
