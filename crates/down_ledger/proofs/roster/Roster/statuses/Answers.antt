use Rattle.std.proofs.Common.{◌≡◌, List, length, subst}
use Rattle.fleet_states.specs.Groups.{IsSafe, groups_of}
use Rattle.down_ledger.specs.Rosters.{RosterView}
use Rattle.down_ledger.proofs.RosterLemmas.{safe_kept}
use Rattle.down_ledger.proofs.roster.Roster.statuses.Goals as goal

pub returns-clause-safe : goal.returns-clause-safe
returns-clause-safe c =
    subst (λ (v : RosterView). IsSafe (groups_of v.fleet) v.statuses) c.self.view_is (safe_kept c.self.inside.ledger c.self.inside.statuses.items c.self.inside.seats.items c.self.invariant)

pub returns-clause-all : goal.returns-clause-all
returns-clause-all c =
    subst (λ (v : RosterView). length v.statuses ≡ length v.fleet.hosts) c.self.view_is c.self.invariant.all
