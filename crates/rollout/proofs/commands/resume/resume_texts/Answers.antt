use Rattle.std.proofs.Common.{ℕ, List, inl, inr, refl, subst, sym}
use Rattle.std.proofs.KnownBytes.{Keeps-refl}
use Rattle.event_log.specs.Events.{Event}
use Rattle.roll_run.proofs.Following.{gains_as, gains_none}
use Rattle.rollout.specs.Resumes as model
use Rattle.rollout.specs.Resumes.{IsNoneWished, IsWished}
use Rattle.rollout.proofs.Journals.{kept_as}
use Rattle.rollout.proofs.Resuming.{GoesOnBy-of_rest}
use Rattle.rollout.proofs.commands.resume.resume_texts.Goals as goal

pub returns-in-Err-clause-goes : goal.returns-in-Err-clause-goes
returns-in-Err-clause-goes g c =
    gains_none c.args.history c.args.history refl (inl (record {
      why = inl (record { cause = c.in-Err.fault; is = c.from.ensures; refuses = c.in-Err.ensures.err });
      unwritten = Keeps-refl (g.W.Write.contents c.args.out.now);
      none = refl;
    }))

pub returns-in-Ok-reopen-clause-goes : goal.returns-in-Ok-reopen-clause-goes
returns-in-Ok-reopen-clause-goes g c =
    let wish = model.wished c.args.wish.now in
    GoesOnBy-of_rest c.args.wish.now.form (g.R.Runner.may c.args.runner.now) (IsWished c.args.inventory.now c.args.playbook.now c.args.journal.now wish) (IsNoneWished c.args.inventory.now c.args.playbook.now c.args.journal.now wish)
    c.args.forks (g.W.Write.contents c.args.out.now) (g.W.Write.contents c.keep_rest.new.out) c.in-Ok.resumption c.keep_rest.result.0 c.args.history c.keep_rest.result.1 c.in-Ok.ensures.ok
    c.keep_rest.ensures.ok c.keep_rest.ensures.err

pub returns-in-Err-reopen-clause-goes : goal.returns-in-Err-reopen-clause-goes
returns-in-Err-reopen-clause-goes g c =
    gains_none c.args.history c.args.history refl (inl (record { why = inr refl; unwritten = Keeps-refl (g.W.Write.contents c.args.out.now); none = refl }))

pub returns-in-Err-clause-journal : goal.returns-in-Err-clause-journal
returns-in-Err-clause-journal g c = gains_none c.args.history c.args.history refl (inl (refl, refl))

pub returns-in-Err-reopen-clause-journal : goal.returns-in-Err-reopen-clause-journal
returns-in-Err-reopen-clause-journal g c = gains_none c.args.history c.args.history refl (inl (refl, refl))

pub returns-in-Ok-reopen-clause-journal : goal.returns-in-Ok-reopen-clause-journal
returns-in-Ok-reopen-clause-journal g c =
    gains_as c.args.history c.keep_rest.result.1
    (λ logs keeps. inr (record {
      resumption = c.in-Ok.resumption;
      wished = c.in-Ok.ensures.ok;
      keeps = kept_as g.S.Journal.Write.contents _ _ _ _ _ _ logs (λ first is. (c.whole_length.result, c.whole_length.ensures, rw is c.in-Ok-reopen.ensures)) keeps;
    }))
    c.keep_rest.ensures.journal
