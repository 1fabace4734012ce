use Rattle.std.proofs.Common.{◌≡◌, true, ◌∙◌}
use Rattle.std.specs.Prelude.{IfSome, is_some}
use Rattle.roll_run.proofs.Following.{gains_as}
use Rattle.rollout.proofs.Journals.{texts_are_kept}
use Rattle.rollout.proofs.commands.run.roll_texts.Goals as goal

pub returns-in-Some-clause-journal : goal.returns-in-Some-clause-journal
returns-in-Some-clause-journal g c =
    rw c.in-Some.is
    (gains_as c.args.history c.roll_with.result.1
    (λ logs kept. texts_are_kept g.S.Journal.Write.contents g.S.JournalStore.is_new g.S.JournalStore.is_cut (λ keeper. keeper.name.now) (λ keeper. keeper.inventory.now) (λ keeper. keeper.playbook.now)
    (λ keeper. keeper.file) (λ keeper. keeper.is_whole) (λ file. (is_some file ≡ true) × IfSome file g.S.Journal.DurableFile.is_on_disk)
    c.new-keeper.result _ c.args.inventory.now c.args.playbook.now c.roll_with.result.0 logs (c.new-keeper.ensures.name ∙ c.as_str-name.ensures.value) c.new-keeper.ensures.inventory c.new-keeper.ensures.playbook kept)
    c.roll_with.ensures.kept)
