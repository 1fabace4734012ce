use Rattle.std.proofs.Common.{◌≡◌, ℕ, ◌<◌, ◌∷◌, [], true, false, Some, None, Option, List, length, get_or, set, sym, ap, ◌∙◌, subst, refl, arith}
use Rattle.fleet_states.specs.declared.status.Status.{Status}
use Rattle.fleet_states.specs.declared.status.Status.TheVariants.{Running}
use Rattle.fleet_states.proofs.StatusLemmas.{waiting_within}
use Rattle.fleet_states.specs.Statuses.{is_down, is_waiting, status_at}
use Rattle.fleet_states.specs.Groups.{IsSafe, groups_of}
use Rattle.down_ledger.specs.declared.share.Share.{Share}
use Rattle.down_ledger.specs.Ledgers.{LedgerView, is_marked, with_mark}
use Rattle.down_ledger.specs.Rosters.{RosterView, seated_at, with_host}
use Rattle.down_ledger.specs.RosterInside.{IsKept}
use Rattle.down_ledger.specs.Unfit.{IsFirstFull}
use Rattle.down_ledger.proofs.RosterLemmas.{shown, shown_bare}
use Rattle.down_ledger.proofs.roster.Roster.lend.Goals as goal

pub returns-clause-rest : goal.returns-clause-rest
returns-clause-rest c =
    let ledger = c.self.inside.ledger in
    let statuses = c.self.inside.statuses.items in
    let seats = c.self.inside.seats.items in
    let host = c.args.host.index in
    ap (λ (s : Option Share). shown ledger statuses (set seats host s)) c.take.ensures.after
    ∙ shown_bare ledger statuses seats c.self.invariant host ledger refl
    ∙ ap (λ (v : RosterView). record v { seated = set v.seated host false }) c.self.view_is
