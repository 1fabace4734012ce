use Rattle.std.proofs.Common.{◌≡◌, ℕ, ◌<◌, ◌∷◌, [], true, false, Some, None, Option, List, length, get_or, set, sym, ap, ◌∙◌, subst, refl, arith}
use Rattle.fleet_states.specs.declared.status.Status.{Status}
use Rattle.fleet_states.specs.declared.status.Status.TheVariants.{Running}
use Rattle.fleet_states.proofs.StatusLemmas.{waiting_within}
use Rattle.fleet_states.specs.Statuses.{is_down, is_waiting, status_at}
use Rattle.fleet_states.specs.Groups.{IsSafe, groups_of}
use Rattle.down_ledger.specs.declared.share.Share.{Share}
use Rattle.down_ledger.specs.Ledgers.{LedgerView, is_marked, with_mark}
use Rattle.down_ledger.specs.Rosters.{RosterView, seated_at, with_host}
use Rattle.down_ledger.specs.RosterInside.{IsKept}
use Rattle.down_ledger.specs.Unfit.{IsFirstFull}
use Rattle.down_ledger.proofs.RosterLemmas.{kept_more, marked_again, marked_where_down, marked_within_all, shown_more}
use Rattle.down_ledger.proofs.roster.Roster.rest.Goals as goal

pub invariant_of-self : goal.invariant_of-self
invariant_of-self c =
    let ledger = c.self.inside.ledger in
    let statuses = c.self.inside.statuses.items in
    let seats = c.self.inside.seats.items in
    let share = c.args.share in
    let host = c.host-host.result.index in
    let named : host ≡ share.host.index = ap (λ h. h.index) c.host-host.ensures in
    let was : is_down (status_at statuses share.host.index) ≡ true = subst (λ (v : RosterView). is_down (status_at v.statuses share.host.index) ≡ true) (sym c.self.view_is) c.requires.was in
    let down : is_down (status_at statuses host) ≡ true = ap (λ (n : ℕ). is_down (status_at statuses n)) named ∙ was in
    let marked = marked_where_down ledger statuses seats c.self.invariant host down in
    let inside = marked_within_all ledger statuses seats c.self.invariant host marked in
    let is : ledger ≡ with_mark ledger host (is_down c.args.status) = marked_again ledger statuses seats c.self.invariant host true marked ∙ ap (with_mark ledger host) (sym c.requires.is) in
    let sits : (share.host.index ≡ host) × (is_down c.args.status ≡ true) = (sym named, c.requires.is) in
    kept_more ledger statuses seats c.self.invariant host inside ledger c.args.status (Some share) is sits c.self.invariant.within

pub returns : goal.returns
returns c =
    let ledger = c.self.inside.ledger in
    let statuses = c.self.inside.statuses.items in
    let seats = c.self.inside.seats.items in
    let share = c.args.share in
    let host = c.host-host.result.index in
    let named : host ≡ share.host.index = ap (λ h. h.index) c.host-host.ensures in
    let was : is_down (status_at statuses share.host.index) ≡ true = subst (λ (v : RosterView). is_down (status_at v.statuses share.host.index) ≡ true) (sym c.self.view_is) c.requires.was in
    let down : is_down (status_at statuses host) ≡ true = ap (λ (n : ℕ). is_down (status_at statuses n)) named ∙ was in
    let marked = marked_where_down ledger statuses seats c.self.invariant host down in
    let inside = marked_within_all ledger statuses seats c.self.invariant host marked in
    let is : ledger ≡ with_mark ledger host (is_down c.args.status) = marked_again ledger statuses seats c.self.invariant host true marked ∙ ap (with_mark ledger host) (sym c.requires.is) in
    let sits : (share.host.index ≡ host) × (is_down c.args.status ≡ true) = (sym named, c.requires.is) in
    shown_more ledger statuses seats c.self.invariant host inside ledger c.args.status (Some share) is sits c.self.invariant.within
    ∙ ap (λ (v : RosterView). with_host v host c.args.status true) c.self.view_is
    ∙ ap (λ (n : ℕ). with_host c.args.self.now n c.args.status true) named
