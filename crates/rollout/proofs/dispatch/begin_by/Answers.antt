use Rattle.std.proofs.Common.{sym, ◌∙◌}
use Rattle.std.specs.Prelude.{string_bytes}
use Rattle.rollout.proofs.Journals.{begins_mended, begins_new}
use Rattle.rollout.proofs.dispatch.begin_by.Goals as goal

pub returns-then-is_empty-clause-journal : goal.returns-then-is_empty-clause-journal
returns-then-is_empty-clause-journal g c =
    begins_new g.S.Journal.Write.contents g.S.JournalStore.is_new g.S.JournalStore.is_cut string_bytes _ _ _ _ _ _ c.args.history c.roll.result.1 c.args.wish.journal.now c.args.mended.now
    (sym c.is_empty.ensures ∙ c.if-is_empty.true) c.roll.ensures.rolls c.roll.ensures.journal

pub returns-else-is_empty-clause-journal : goal.returns-else-is_empty-clause-journal
returns-else-is_empty-clause-journal g c =
    begins_mended g.S.Journal.Write.contents g.S.JournalStore.is_new g.S.JournalStore.is_cut string_bytes _ _ _ _ _ _ c.args.history c.roll_mended.result.1 c.args.wish.journal.now c.args.mended.now
    (sym c.is_empty.ensures ∙ c.if-is_empty.false) c.roll_mended.ensures.rolls c.roll_mended.ensures.journal
