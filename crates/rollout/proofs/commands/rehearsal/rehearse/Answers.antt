use Rattle.std.proofs.Common.{inl}
use Rattle.std.proofs.KnownBytes.{Keeps-refl}
use Rattle.rollout.proofs.Rehearsing.{RehearsesInputs-of_texts}
use Rattle.rollout.proofs.commands.rehearsal.rehearse.Goals as goal

pub returns-in-Ok : goal.returns-in-Ok
returns-in-Ok g c =
    let answers = rw (c.as_slice-inventory.ensures.value, c.as_slice-playbook.ensures.value) at c.answer_all.ensures.ok in
    let ends = rw (c.as_slice-inventory.ensures.value, c.as_slice-playbook.ensures.value, c.read_both.ensures.stays) at c.answer_all.ensures.err in
    RehearsesInputs-of_texts c.args.form c.args.is_strict _ _ _ _ _ _ _ _ c.in-Ok.inventory.items c.in-Ok.playbook.items c.answer_all.result c.in-Ok.ensures.ok answers ends

pub returns-in-Err : goal.returns-in-Err
returns-in-Err g c = inl (c.in-Err.ensures.err, Keeps-refl (g.W.Write.contents c.args.out.now))
