use Rattle.std.proofs.Common.{List, sym, ap, ◌∙◌}
use Rattle.group_tree.specs.declared.ids.HostId.{HostId}
use Rattle.domains.specs.Ids.{host_numbers}
use Rattle.journal.specs.Entries as entries
use Rattle.journal.specs.States.{next}
use Rattle.journal.specs.Shown.{shown_entry, shown_journal, shown_outcomes}
use Rattle.journal.specs.declared.entry.Entry.{Entry}
use Rattle.journal.specs.declared.entry.Outcome.{Outcome}
use Rattle.journal.proofs.replay.follow.Goals as goal

pub returns-in-Begun : goal.returns-in-Begun
returns-in-Begun c =
    c.begin.ensures c.args.fleet.now ∙ ap (λ (e : Entry). next c.args.fleet.now (shown_journal c.args.journal) (shown_entry e)) (sym c.in-Begun.is)

pub returns-in-Held : goal.returns-in-Held
returns-in-Held c =
    c.hold.ensures c.args.fleet.now
    ∙ ap (λ (l : List HostId). next c.args.fleet.now (shown_journal c.args.journal) (entries.held (host_numbers l))) c.as_slice-in-Held.ensures.value
    ∙ ap (λ (e : Entry). next c.args.fleet.now (shown_journal c.args.journal) (shown_entry e)) (sym c.in-Held.is)

pub returns-in-Opened : goal.returns-in-Opened
returns-in-Opened c =
    c.open.ensures c.args.fleet.now ∙ ap (λ (e : Entry). next c.args.fleet.now (shown_journal c.args.journal) (shown_entry e)) (sym c.in-Opened.is)

pub returns-in-Closed : goal.returns-in-Closed
returns-in-Closed c =
    c.close.ensures c.args.fleet.now
    ∙ ap (λ (l : List Outcome). next c.args.fleet.now (shown_journal c.args.journal) (entries.closed (shown_outcomes l))) c.as_slice-in-Closed.ensures.value
    ∙ ap (λ (e : Entry). next c.args.fleet.now (shown_journal c.args.journal) (shown_entry e)) (sym c.in-Closed.is)

pub returns-in-Again : goal.returns-in-Again
returns-in-Again c =
    c.resume_with.ensures c.args.fleet.now
    ∙ ap (λ (l : List HostId). next c.args.fleet.now (shown_journal c.args.journal) (entries.again (host_numbers l))) c.as_slice-in-Again.ensures.value
    ∙ ap (λ (e : Entry). next c.args.fleet.now (shown_journal c.args.journal) (shown_entry e)) (sym c.in-Again.is)
