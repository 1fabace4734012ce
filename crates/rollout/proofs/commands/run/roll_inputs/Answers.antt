use Rattle.std.proofs.Common.{inl, inr, refl}
use Rattle.std.proofs.KnownBytes.{Keeps-refl}
use Rattle.roll_run.proofs.Following.{gains_as, gains_none}
use Rattle.rollout.proofs.Journals.{if_some, if_some_as}
use Rattle.rollout.proofs.Rolling.{RollsInputs-of_texts}
use Rattle.rollout.proofs.commands.run.roll_inputs.Goals as goal

pub returns-in-Ok-check_names-clause-rolls : goal.returns-in-Ok-check_names-clause-rolls
returns-in-Ok-check_names-clause-rolls g c =
    let prints = rw (c.as_slice-inventory.ensures.value, c.as_slice-playbook.ensures.value) at c.roll_texts.ensures.ok in
    let named = rw (c.as_slice-inventory.ensures.value, c.as_slice-playbook.ensures.value) at c.in-Ok-check_names.ensures.ok in
    let breaks = rw (c.as_slice-inventory.ensures.value, c.as_slice-playbook.ensures.value) at c.roll_texts.ensures.err in
    RollsInputs-of_texts c.args.wish.form c.args.wish.is_strict _ _ _ _ c.args.forks _ _ _ _ c.in-Ok.inventory.items c.in-Ok.playbook.items c.roll_texts.result.0 c.args.history c.roll_texts.result.1 c.in-Ok.ensures.ok named prints breaks

pub returns-in-Ok-clause-rolls : goal.returns-in-Ok-clause-rolls
returns-in-Ok-clause-rolls g c =
    let refuses = rw (c.as_slice-inventory.ensures.value, c.as_slice-playbook.ensures.value) at c.in-Err-check_names.ensures.err in
    gains_none c.args.history c.args.history refl (inr (inl (record {
      first = c.in-Ok.inventory.items;
      second = c.in-Ok.playbook.items;
      texts = c.in-Ok.ensures.ok;
      is_strict = c.in-Err-check_names.ensures.strict;
      refuses = refuses;
      unwritten = Keeps-refl (g.W.Write.contents c.args.out.now);
      none = refl;
    })))

pub returns-clause-rolls : goal.returns-clause-rolls
returns-clause-rolls g c = gains_none c.args.history c.args.history refl (inl (c.in-Err.ensures.err, Keeps-refl (g.W.Write.contents c.args.out.now), refl))

pub returns-in-Ok-check_names-clause-journal : goal.returns-in-Ok-check_names-clause-journal
returns-in-Ok-check_names-clause-journal g c =
    if_some_as _ _ c.args.wish.journal.now
    (λ name. gains_as c.args.history c.roll_texts.result.1
    (λ logs is. inr (record { first = c.in-Ok.inventory.items; second = c.in-Ok.playbook.items; texts = c.in-Ok.ensures.ok; is = is })))
    (rw (c.as_slice-inventory.ensures.value, c.as_slice-playbook.ensures.value) at c.roll_texts.ensures.journal)

pub returns-in-Ok-clause-journal : goal.returns-in-Ok-clause-journal
returns-in-Ok-clause-journal g c = if_some _ c.args.wish.journal.now (λ name. gains_none c.args.history c.args.history refl (inl (refl, refl)))

pub returns-clause-journal : goal.returns-clause-journal
returns-clause-journal g c = if_some _ c.args.wish.journal.now (λ name. gains_none c.args.history c.args.history refl (inl (refl, refl)))
