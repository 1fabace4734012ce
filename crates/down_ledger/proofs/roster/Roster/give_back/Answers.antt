use Rattle.std.proofs.Common.{◌≡◌, ℕ, ◌<◌, ◌∷◌, [], true, false, Some, None, Option, is_some, List, map, length, get_or, set, sym, ap, ◌∙◌, subst, refl, arith}
use Rattle.fleet_states.specs.declared.status.Status.{Status}
use Rattle.fleet_states.specs.declared.status.Status.TheVariants.{Running}
use Rattle.fleet_states.proofs.StatusLemmas.{waiting_within}
use Rattle.fleet_states.specs.Statuses.{is_down, is_waiting, status_at}
use Rattle.fleet_states.specs.Groups.{IsSafe, groups_of}
use Rattle.down_ledger.specs.declared.share.Share.{Share}
use Rattle.down_ledger.specs.Ledgers.{LedgerView, is_marked, with_mark}
use Rattle.down_ledger.specs.Rosters.{RosterView, seated_at, with_host}
use Rattle.down_ledger.specs.RosterInside.{IsKept}
use Rattle.down_ledger.specs.Unfit.{IsFirstFull}
use Rattle.down_ledger.proofs.RosterLemmas.{given_back_within, kept_more, seat_down, shown, shown_more, taken_seat}
use Rattle.down_ledger.proofs.roster.Roster.give_back.Goals as goal

pub give_back-requires : goal.give_back-requires
give_back-requires c =
    let ledger = c.self.inside.ledger in
    let statuses = c.self.inside.statuses.items in
    let seats = c.self.inside.seats.items in
    let host = c.args.host.index in
    let share = c.in-Some.share in
    let rests : seated_at (map is_some seats) host ≡ true = subst (λ (v : RosterView). seated_at v.seated host ≡ true) (sym c.self.view_is) c.requires.rests in
    let down = seat_down ledger statuses seats c.self.invariant host rests in
    let read = sym c.take.ensures.value ∙ c.in-Some.is in
    let seat = taken_seat ledger statuses seats c.self.invariant host c.index_mut.result.now share (omega (arith, down.0, c.self.invariant.all_seats)) c.index_mut.ensures.value read in
    ap (is_marked ledger.down) seat.0 ∙ seat.1

pub invariant_of-self : goal.invariant_of-self
invariant_of-self c =
    let ledger = c.self.inside.ledger in
    let statuses = c.self.inside.statuses.items in
    let seats = c.self.inside.seats.items in
    let host = c.args.host.index in
    let share = c.in-Some.share in
    let rests : seated_at (map is_some seats) host ≡ true = subst (λ (v : RosterView). seated_at v.seated host ≡ true) (sym c.self.view_is) c.requires.rests in
    let down = seat_down ledger statuses seats c.self.invariant host rests in
    let read = sym c.take.ensures.value ∙ c.in-Some.is in
    let seat = taken_seat ledger statuses seats c.self.invariant host c.index_mut.result.now share (omega (arith, down.0, c.self.invariant.all_seats)) c.index_mut.ensures.value read in
    let new = c.give_back.new.self in
    let up : new ≡ with_mark ledger host false = c.give_back.ensures ∙ ap (λ (n : ℕ). with_mark ledger n false) seat.0 in
    let is : new ≡ with_mark ledger host (is_down c.args.status) = up ∙ ap (with_mark ledger host) (sym c.requires.up) in
    let under = given_back_within ledger statuses seats c.self.invariant host new down.0 up in
    let kept = kept_more ledger statuses seats c.self.invariant host down.0 new c.args.status None is tt under in
    subst (λ (s : Option Share). IsKept new (set statuses host c.args.status) (set seats host s)) (sym c.take.ensures.after) kept

pub returns-in-Some : goal.returns-in-Some
returns-in-Some c =
    let ledger = c.self.inside.ledger in
    let statuses = c.self.inside.statuses.items in
    let seats = c.self.inside.seats.items in
    let host = c.args.host.index in
    let share = c.in-Some.share in
    let rests : seated_at (map is_some seats) host ≡ true = subst (λ (v : RosterView). seated_at v.seated host ≡ true) (sym c.self.view_is) c.requires.rests in
    let down = seat_down ledger statuses seats c.self.invariant host rests in
    let read = sym c.take.ensures.value ∙ c.in-Some.is in
    let seat = taken_seat ledger statuses seats c.self.invariant host c.index_mut.result.now share (omega (arith, down.0, c.self.invariant.all_seats)) c.index_mut.ensures.value read in
    let new = c.give_back.new.self in
    let up : new ≡ with_mark ledger host false = c.give_back.ensures ∙ ap (λ (n : ℕ). with_mark ledger n false) seat.0 in
    let is : new ≡ with_mark ledger host (is_down c.args.status) = up ∙ ap (with_mark ledger host) (sym c.requires.up) in
    let under = given_back_within ledger statuses seats c.self.invariant host new down.0 up in
    ap (λ (s : Option Share). shown new (set statuses host c.args.status) (set seats host s)) c.take.ensures.after
    ∙ shown_more ledger statuses seats c.self.invariant host down.0 new c.args.status None is tt under
    ∙ ap (λ (v : RosterView). with_host v host c.args.status false) c.self.view_is
