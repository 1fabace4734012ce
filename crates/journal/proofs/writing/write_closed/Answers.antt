use Rattle.std.proofs.Common.{List, OnOk, ap, ◌∙◌, subst}
use Rattle.bounded_io.specs.Writing.{Writes}
use Rattle.journal.specs.Entries as entries
use Rattle.journal.specs.Entries.{entry_text}
use Rattle.journal.specs.Shown.{shown_outcomes}
use Rattle.journal.specs.declared.entry.Outcome.{Outcome}
use Rattle.journal.proofs.SayLemmas.{same_outcomes}
use Rattle.journal.proofs.writing.write_closed.Goals as goal

pub returns-clause-writes : goal.returns-clause-writes
returns-clause-writes g c =
    subst (λ (outcomes : List entries.Outcome). OnOk c.write_entry.result (Writes g.W.Write.contents c.args.text.now c.write_entry.new.text (entry_text c.args.fleet.now (entries.closed outcomes))))
    (ap (λ (l : List Outcome). shown_outcomes l) c.in_ok-outcomes.ensures ∙ same_outcomes c.args.statuses.now c.args.batch.now) c.write_entry.ensures.writes
