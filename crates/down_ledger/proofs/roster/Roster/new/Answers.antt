use Rattle.std.proofs.Common.{◌≡◌, ℕ, Bool, false, is_some, None, Option, List, length, map, replicate, sym, ap, ◌∙◌, subst}
use Rattle.fleet_states.specs.declared.status.Status.{Status}
use Rattle.domains.specs.FleetViews.{FleetView}
use Rattle.down_ledger.specs.declared.share.Share.{Share}
use Rattle.down_ledger.specs.Ledgers.{LedgerView, ledger_of}
use Rattle.down_ledger.specs.Rosters.{RosterView}
use Rattle.down_ledger.proofs.RosterLemmas.{starts_kept, starts_shown}
use Rattle.down_ledger.proofs.roster.Roster.new.Goals as goal

pub invariant_of-result : goal.invariant_of-result
invariant_of-result c =
    let fleet = c.args.fleet.now in
    let statuses = c.args.statuses.items in
    let ledger = c.in_ok-ledger.ensures ∙ ap (λ (l : List Status). ledger_of fleet l) c.as_slice.ensures.value in
    starts_kept fleet statuses c.hosts.result c.in_ok-seats.seats.items c.in_ok-ledger.ledger c.hosts.ensures.sound c.requires.all c.requires.safe (c.hosts.ensures.count ∙ sym c.requires.all) c.in_ok-seats.ensures ledger

pub returns : goal.returns
returns c =
    let fleet = c.args.fleet.now in
    let statuses = c.args.statuses.items in
    let ledger = c.in_ok-ledger.ensures ∙ ap (λ (l : List Status). ledger_of fleet l) c.as_slice.ensures.value in
    starts_shown fleet statuses c.hosts.result c.in_ok-seats.seats.items c.in_ok-ledger.ledger (c.hosts.ensures.count ∙ sym c.requires.all) c.in_ok-seats.ensures ledger
