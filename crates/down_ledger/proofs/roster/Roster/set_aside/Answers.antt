use Rattle.std.proofs.Common.{◌≡◌, ℕ, ◌<◌, ◌∷◌, [], true, false, Some, None, Option, List, length, get_or, set, sym, ap, ◌∙◌, subst, refl, arith}
use Rattle.fleet_states.specs.declared.status.Status.{Status}
use Rattle.fleet_states.specs.declared.status.Status.TheVariants.{Held}
use Rattle.fleet_states.proofs.StatusLemmas.{waiting_within}
use Rattle.fleet_states.specs.Statuses.{is_down, is_waiting, status_at}
use Rattle.fleet_states.specs.Groups.{IsSafe, groups_of}
use Rattle.down_ledger.specs.declared.share.Share.{Share}
use Rattle.down_ledger.specs.Ledgers.{LedgerView, is_marked, with_mark}
use Rattle.down_ledger.specs.Rosters.{RosterView, seated_at, with_host}
use Rattle.down_ledger.specs.RosterInside.{IsKept}
use Rattle.down_ledger.specs.Unfit.{IsFirstFull}
use Rattle.down_ledger.proofs.RosterLemmas.{kept_up, waits_up}
use Rattle.down_ledger.proofs.roster.Roster.set_aside.Goals as goal

pub invariant_of-self : goal.invariant_of-self
invariant_of-self c =
    let ledger = c.self.inside.ledger in
    let statuses = c.self.inside.statuses.items in
    let seats = c.self.inside.seats.items in
    let host = c.args.host.index in
    let waits : is_waiting (status_at statuses host) ≡ true = subst (λ (v : RosterView). is_waiting (status_at v.statuses host) ≡ true) (sym c.self.view_is) c.requires in
    kept_up ledger statuses seats c.self.invariant host (waiting_within statuses host waits) (waits_up ledger statuses seats c.self.invariant host waits) Held refl
