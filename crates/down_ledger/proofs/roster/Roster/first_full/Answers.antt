use Rattle.std.proofs.Common.{◌≡◌, ℕ, ◌<◌, ◌∷◌, [], true, false, Some, None, Option, MatchOption, List, length, get_or, set, sym, ap, ◌∙◌, subst, refl, arith}
use Rattle.fleet_states.specs.declared.status.Status.{Status}
use Rattle.fleet_states.specs.declared.status.Status.TheVariants.{Running}
use Rattle.fleet_states.proofs.StatusLemmas.{waiting_within}
use Rattle.fleet_states.specs.Statuses.{is_down, is_waiting, status_at}
use Rattle.fleet_states.specs.Groups.{Fits, IsSafe, groups_of}
use Rattle.down_ledger.specs.declared.share.Share.{Share}
use Rattle.down_ledger.specs.Ledgers.{LedgerView, is_marked, with_mark}
use Rattle.down_ledger.specs.Rosters.{RosterView, seated_at, with_host}
use Rattle.down_ledger.specs.RosterInside.{IsKept}
use Rattle.down_ledger.specs.Unfit.{IsFirstFull}
use Rattle.down_ledger.proofs.RosterLemmas.{told_alone}
use Rattle.down_ledger.proofs.roster.Roster.first_full.Goals as goal

pub first_full-requires : goal.first_full-requires
first_full-requires c =
    let within : c.args.host.index < length c.self.inside.statuses.items = subst (λ (v : RosterView). c.args.host.index < length v.statuses) (sym c.self.view_is) c.requires in
    omega (arith, within, c.self.invariant.all)

pub returns : goal.returns
returns c =
    let host = c.args.host.index in
    let told = told_alone c.self.inside.ledger c.self.inside.statuses.items c.self.inside.seats.items c.self.invariant host c.first_full.result c.first_full.ensures in
    subst (λ (v : RosterView). MatchOption c.first_full.result (Fits (groups_of v.fleet) v.statuses (host ∷ [])) (λ group. IsFirstFull (groups_of v.fleet) v.statuses (host ∷ []) group.index)) c.self.view_is told
