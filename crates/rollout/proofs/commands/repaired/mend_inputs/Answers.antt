use Rattle.std.proofs.Common.{inl, inr, refl}
use Rattle.std.proofs.KnownBytes.{Keeps-refl}
use Rattle.roll_run.proofs.Following.{gains_as, gains_none}
use Rattle.rollout.proofs.Journals.{if_some, if_some_as}
use Rattle.rollout.proofs.Rolling.{fault_in, never_lacking}
use Rattle.rollout.proofs.commands.repaired.mend_inputs.Goals as goal

pub returns-in-Err-clause-mends : goal.returns-in-Err-clause-mends
returns-in-Err-clause-mends g c =
    gains_none c.args.history c.args.history refl (inl (record {
      fault = c.in-Err.fault;
      is = refl;
      why = c.in-Err.ensures.err;
      unwritten = Keeps-refl (g.W.Write.contents c.args.out.now);
      none = refl;
    }))

pub returns-in-Err-clause-stops : goal.returns-in-Err-clause-stops
returns-in-Err-clause-stops g c same = absurd (never_lacking _ c.args.inventory c.args.playbook _ _ c.in-Err.fault (fault_in c.in-Err.fault same) c.in-Err.ensures.err)

pub returns-in-Ok-clause-mends : goal.returns-in-Ok-clause-mends
returns-in-Ok-clause-mends g c =
    gains_as c.args.history c.mend_texts.result.1
    (λ logs goes. inr (record { first = c.in-Ok.inventory.items; second = c.in-Ok.playbook.items; texts = c.in-Ok.ensures.ok; goes = goes }))
    (rw (c.as_slice.ensures.value, c.as_slice-in-Ok.ensures.value) at c.mend_texts.ensures.goes)

pub returns-in-Err-clause-journal : goal.returns-in-Err-clause-journal
returns-in-Err-clause-journal g c = if_some _ c.args.wish.journal.now (λ name. gains_none c.args.history c.args.history refl (inl (refl, refl)))

pub returns-in-Ok-clause-journal : goal.returns-in-Ok-clause-journal
returns-in-Ok-clause-journal g c =
    if_some_as _ _ c.args.wish.journal.now
    (λ name. gains_as c.args.history c.mend_texts.result.1
    (λ logs is. inr (record { first = c.in-Ok.inventory.items; second = c.in-Ok.playbook.items; texts = c.in-Ok.ensures.ok; is = is })))
    (rw (c.as_slice.ensures.value, c.as_slice-in-Ok.ensures.value) at c.mend_texts.ensures.journal)
