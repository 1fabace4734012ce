use Rattle.std.proofs.Common.{◌≡◌, ◌∙◌, inl, inr, refl}
use Rattle.std.specs.Prelude.{string_bytes}
use Rattle.std.proofs.KnownBytes.{Keeps-refl}
use Rattle.resume_state.specs.Resumptions.{IsMendedBeginning, RefusesToBegin}
use Rattle.roll_run.proofs.Following.{gains_as, gains_none}
use Rattle.rollout.specs.Kept.{HasOwnHead}
use Rattle.rollout.proofs.Journals.{if_some, kept_as, own_head}
use Rattle.rollout.proofs.Resuming.{GoesOnBy-of_rest}
use Rattle.rollout.proofs.commands.repaired.mend_texts.Goals as goal

pub returns-in-Err-clause-goes : goal.returns-in-Err-clause-goes
returns-in-Err-clause-goes g c =
    gains_none c.args.history c.args.history refl (inl (record {
      why = inl (record { cause = c.in-Err.fault; is = c.from.ensures; refuses = c.in-Err.ensures.err });
      unwritten = Keeps-refl (g.W.Write.contents c.args.out.now);
      none = refl;
    }))

pub returns-in_default-clause-goes : goal.returns-in_default-clause-goes
returns-in_default-clause-goes g c =
    GoesOnBy-of_rest c.args.wish.form (g.R.Runner.may c.args.runner.now) (IsMendedBeginning c.args.inventory.now c.args.playbook.now c.args.mended.now)
    (RefusesToBegin c.args.inventory.now c.args.playbook.now c.args.mended.now) c.args.forks (g.W.Write.contents c.args.out.now) (g.W.Write.contents c.run_mended.new.out) c.in-Ok.beginning
    c.run_mended.result.0 c.args.history c.run_mended.result.1 c.in-Ok.ensures.ok c.run_mended.ensures.ok c.run_mended.ensures.err

pub returns-in-Some-begun-clause-goes : goal.returns-in-Some-begun-clause-goes
returns-in-Some-begun-clause-goes g c =
    GoesOnBy-of_rest c.args.wish.form (g.R.Runner.may c.args.runner.now) (IsMendedBeginning c.args.inventory.now c.args.playbook.now c.args.mended.now)
    (RefusesToBegin c.args.inventory.now c.args.playbook.now c.args.mended.now) c.args.forks (g.W.Write.contents c.args.out.now) (g.W.Write.contents c.keep_rest.new.out) c.in-Ok.beginning
    c.keep_rest.result.0 c.args.history c.keep_rest.result.1 c.in-Ok.ensures.ok c.keep_rest.ensures.ok c.keep_rest.ensures.err

pub returns-in-None-clause-goes : goal.returns-in-None-clause-goes
returns-in-None-clause-goes g c =
    gains_none c.args.history c.args.history refl (inl (record { why = inr refl; unwritten = Keeps-refl (g.W.Write.contents c.args.out.now); none = refl }))

pub returns-in-Err-clause-journal : goal.returns-in-Err-clause-journal
returns-in-Err-clause-journal g c = if_some _ c.args.wish.journal.now (λ name. gains_none c.args.history c.args.history refl (inl (refl, refl)))

pub returns-in-None-clause-journal : goal.returns-in-None-clause-journal
returns-in-None-clause-journal g c = if_some _ c.args.wish.journal.now (λ name. gains_none c.args.history c.args.history refl (inl (refl, refl)))

pub returns-in-Some-begun-clause-journal : goal.returns-in-Some-begun-clause-journal
returns-in-Some-begun-clause-journal g c =
    rw c.in-Some.is
    (gains_as c.args.history c.keep_rest.result.1
    (λ logs keeps. inr (record {
      resumption = c.in-Ok.beginning;
      wished = c.in-Ok.ensures.ok;
      keeps = kept_as g.S.Journal.Write.contents (λ first. first ≡ c.in-Some-begun.file)
          (HasOwnHead g.S.Journal.Write.contents (λ file. g.S.JournalStore.is_new file (string_bytes c.in-Some.name)) c.args.inventory.now c.args.playbook.now c.in-Ok.beginning) _ _ _ _ logs (λ first is. own_head g.S.Journal.Write.contents g.S.JournalStore.is_new _ _ _ _ _ _ _ first _ c.as_str.ensures.value (c.len.ensures ∙ c.in-Ok.beginning.plays.ok.0) is c.in-Some-begun.ensures) keeps;
    }))
    c.keep_rest.ensures.journal)
