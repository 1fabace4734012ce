use Rattle.std.proofs.Common.{◌≡◌, List, ap, ◌∙◌, sym, subst}
use Rattle.fleet_states.specs.Groups.{group_at, groups_of}
use Rattle.fleet_states.specs.Statuses.{down_count}
use Rattle.down_ledger.specs.Ledgers.{LedgerView, down_in}
use Rattle.down_ledger.proofs.LedgerLemmas.{down_in-statuses}
use Rattle.down_ledger.specs.Rosters.{RosterView}
use Rattle.down_ledger.proofs.RosterLemmas.{ledger_is, members_at}
use Rattle.down_ledger.proofs.roster.Roster.down.Goals as goal

pub returns : goal.returns
returns c =
    let ledger = c.self.inside.ledger in
    let statuses = c.self.inside.statuses.items in
    let group = c.args.group.index in
    let kept = c.self.invariant in
    let counted = ap (λ (l : LedgerView). down_in l group) (ledger_is ledger statuses c.self.inside.seats.items kept) ∙ down_in-statuses ledger.fleet statuses group in
    let members = sym (members_at ledger.fleet kept.sound.all_members group) in
    subst (λ (v : RosterView). c.down.result ≡ down_count v.statuses (group_at (groups_of v.fleet) group).members) c.self.view_is (c.down.ensures.count ∙ counted ∙ ap (down_count statuses) members)
