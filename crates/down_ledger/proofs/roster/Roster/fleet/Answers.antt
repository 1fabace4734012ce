use Rattle.std.proofs.Common.{◌≡◌, ℕ, ◌<◌, ◌∷◌, [], true, false, Some, None, Option, List, length, get_or, set, sym, ap, ◌∙◌, subst, refl, arith}
use Rattle.fleet_states.specs.declared.status.Status.{Status}
use Rattle.fleet_states.specs.declared.status.Status.TheVariants.{Running}
use Rattle.fleet_states.proofs.StatusLemmas.{waiting_within}
use Rattle.fleet_states.specs.Statuses.{is_down, is_waiting, status_at}
use Rattle.fleet_states.specs.Groups.{IsSafe, groups_of}
use Rattle.down_ledger.specs.declared.share.Share.{Share}
use Rattle.down_ledger.specs.Ledgers.{LedgerView, is_marked, with_mark}
use Rattle.down_ledger.specs.Rosters.{RosterView, seated_at, with_host}
use Rattle.down_ledger.specs.RosterInside.{IsKept}
use Rattle.down_ledger.specs.Unfit.{IsFirstFull}
use Rattle.down_ledger.proofs.RosterLemmas.{safe_kept}
use Rattle.down_ledger.proofs.roster.Roster.fleet.Goals as goal

pub returns-clause-safe : goal.returns-clause-safe
returns-clause-safe c =
    subst (λ (v : RosterView). IsSafe (groups_of v.fleet) v.statuses) c.self.view_is (safe_kept c.self.inside.ledger c.self.inside.statuses.items c.self.inside.seats.items c.self.invariant)
