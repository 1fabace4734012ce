use Rattle.std.proofs.Common.{◌≡◌, ℕ, ◌<◌, ◌∷◌, [], true, false, Some, None, Option, is_some, List, map, length, get_or, set, sym, ap, ◌∙◌, subst, refl, arith}
use Rattle.fleet_states.specs.declared.status.Status.{Status}
use Rattle.fleet_states.specs.declared.status.Status.TheVariants.{Running}
use Rattle.fleet_states.proofs.StatusLemmas.{waiting_within}
use Rattle.fleet_states.specs.Statuses.{is_down, is_waiting, status_at}
use Rattle.fleet_states.specs.Groups.{IsSafe, groups_of}
use Rattle.down_ledger.specs.declared.share.Share.{Share}
use Rattle.down_ledger.specs.Ledgers.{LedgerView, is_marked, with_mark}
use Rattle.down_ledger.specs.Rosters.{RosterView, seated_at, with_host}
use Rattle.down_ledger.specs.RosterInside.{IsKept}
use Rattle.down_ledger.specs.Unfit.{IsFirstFull}
use Rattle.down_ledger.proofs.RosterLemmas.{seat_down, shown, shown_bare, taken_seat}
use Rattle.down_ledger.proofs.roster.Roster.keep_down.Goals as goal

pub keep_down-requires : goal.keep_down-requires
keep_down-requires c =
    let ledger = c.self.inside.ledger in
    let statuses = c.self.inside.statuses.items in
    let seats = c.self.inside.seats.items in
    let host = c.args.host.index in
    let share = c.in-Some.share in
    let rests : seated_at (map is_some seats) host ≡ true = subst (λ (v : RosterView). seated_at v.seated host ≡ true) (sym c.self.view_is) c.requires in
    let down = seat_down ledger statuses seats c.self.invariant host rests in
    let read = sym c.take.ensures.value ∙ c.in-Some.is in
    let seat = taken_seat ledger statuses seats c.self.invariant host c.index_mut.result.now share (omega (arith, down.0, c.self.invariant.all_seats)) c.index_mut.ensures.value read in
    ap (is_marked ledger.down) seat.0 ∙ seat.1

pub returns-in-Some : goal.returns-in-Some
returns-in-Some c =
    let ledger = c.self.inside.ledger in
    let statuses = c.self.inside.statuses.items in
    let seats = c.self.inside.seats.items in
    let host = c.args.host.index in
    let new = c.keep_down.new.self in
    ap (λ (s : Option Share). shown new statuses (set seats host s)) c.take.ensures.after
    ∙ shown_bare ledger statuses seats c.self.invariant host new c.keep_down.ensures
    ∙ ap (λ (v : RosterView). record v { seated = set v.seated host false }) c.self.view_is
