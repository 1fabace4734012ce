use Rattle.std.proofs.Common.{inl, refl}
use Rattle.std.proofs.KnownBytes.{Keeps-refl}
use Rattle.roll_run.proofs.Following.{gains_none}
use Rattle.rollout.proofs.Journals.{if_some}
use Rattle.rollout.proofs.commands.repaired.roll_mended.Goals as goal

pub returns-in-Err-clause-rolls : goal.returns-in-Err-clause-rolls
returns-in-Err-clause-rolls g c =
    gains_none c.args.history c.args.history refl (inl (record {
      fault = c.in-Err.fault;
      because = c.in-Err.ensures.err;
      is = refl;
      unread = Keeps-refl (g.I.Read.remaining c.args.input.now);
      unwritten = Keeps-refl (g.W.Write.contents c.args.out.now);
      none = refl;
    }))

pub returns-in-Err-clause-journal : goal.returns-in-Err-clause-journal
returns-in-Err-clause-journal g c = if_some _ c.args.wish.journal.now (λ name. gains_none c.args.history c.args.history refl (inl (refl, refl)))
