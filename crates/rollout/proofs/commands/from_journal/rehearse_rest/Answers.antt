use Rattle.std.proofs.Common.{inl}
use Rattle.std.proofs.KnownBytes.{Keeps-refl}
use Rattle.rollout.specs.Resumes as model
use Rattle.rollout.specs.Systems.{sources_of}
use Rattle.rollout.proofs.Outlooks.{RehearsesFrom-of_texts, reads_so}
use Rattle.rollout.proofs.commands.from_journal.rehearse_rest.Goals as goal

pub returns-in-Ok : goal.returns-in-Ok
returns-in-Ok g c =
    let sources = sources_of (g.S.System.known c.args.system.now) (g.I.Input.is_reliable c.args.input.now) in
    let wish = model.wished c.args.wish in
    let old = g.I.Read.remaining c.args.input.now in
    let between = g.I.Read.remaining c.read_all.new.input in
    let texts = c.in-Ok.texts in
    let first = c.as_slice.result.now in
    let second = c.as_slice-in-Ok.result.now in
    let third = c.as_slice-in-Ok-2.result.now in
    let reads = reads_so sources c.args.inventory c.args.playbook wish old between texts.inventory.items texts.playbook.items texts.journal.items first second third
    c.as_slice.ensures.value c.as_slice-in-Ok.ensures.value c.as_slice-in-Ok-2.ensures.value c.in-Ok.ensures.ok in
    RehearsesFrom-of_texts sources c.args.inventory c.args.playbook wish old between c.args.is_strict (g.I.Read.remaining c.answer_rest.new.input) (g.W.Write.contents c.args.out.now)
    (g.W.Write.contents c.answer_rest.new.out) first second third (g.I.Input.is_reliable c.read_all.new.input) c.answer_rest.result c.read_all.ensures.stays reads
    c.answer_rest.ensures.ok c.answer_rest.ensures.err

pub returns-in-Err : goal.returns-in-Err
returns-in-Err g c = inl (c.in-Err.ensures.err, Keeps-refl (g.W.Write.contents c.args.out.now))
