use Rattle.std.proofs.Common.{◌≡◌, ℕ, ◌<◌, ◌∷◌, [], true, false, Some, None, Option, List, length, get_or, set, sym, ap, ◌∙◌, subst, refl, arith}
use Rattle.fleet_states.specs.declared.status.Status.{Status}
use Rattle.fleet_states.specs.declared.status.Status.TheVariants.{Running}
use Rattle.fleet_states.proofs.StatusLemmas.{waiting_within}
use Rattle.fleet_states.specs.Statuses.{is_down, is_waiting, status_at}
use Rattle.fleet_states.specs.Groups.{IsSafe, groups_of}
use Rattle.down_ledger.specs.declared.share.Share.{Share}
use Rattle.down_ledger.specs.Ledgers.{LedgerView, is_marked, with_mark}
use Rattle.down_ledger.specs.Rosters.{RosterView, seated_at, with_host}
use Rattle.down_ledger.specs.RosterInside.{IsKept}
use Rattle.down_ledger.specs.Unfit.{IsFirstFull}
use Rattle.down_ledger.proofs.RosterLemmas.{first_alone, kept_more, safe_kept, shown_more, taken_within}
use Rattle.down_ledger.proofs.roster.Roster.take.Goals as goal

pub invariant_of-self : goal.invariant_of-self
invariant_of-self c =
    let ledger = c.self.inside.ledger in
    let statuses = c.self.inside.statuses.items in
    let seats = c.self.inside.seats.items in
    let host = c.args.host.index in
    let waits : is_waiting (status_at statuses host) ≡ true = subst (λ (v : RosterView). is_waiting (status_at v.statuses host) ≡ true) (sym c.self.view_is) c.requires in
    let share = c.in-Ok.share in
    let new = c.take.new.self in
    let inside = waiting_within statuses host waits in
    let sits : (share.host.index ≡ host) × (is_down Running ≡ true) = (ap (λ h. h.index) c.in-Ok.ensures.share, refl) in
    let under = taken_within ledger statuses seats c.self.invariant host new waits c.in-Ok.ensures.room c.in-Ok.ensures.ok in
    kept_more ledger statuses seats c.self.invariant host inside new Running (Some share) c.in-Ok.ensures.ok sits under

pub returns-in-Ok-clause-ok : goal.returns-in-Ok-clause-ok
returns-in-Ok-clause-ok c =
    let ledger = c.self.inside.ledger in
    let statuses = c.self.inside.statuses.items in
    let seats = c.self.inside.seats.items in
    let host = c.args.host.index in
    let waits : is_waiting (status_at statuses host) ≡ true = subst (λ (v : RosterView). is_waiting (status_at v.statuses host) ≡ true) (sym c.self.view_is) c.requires in
    let share = c.in-Ok.share in
    let new = c.take.new.self in
    let inside = waiting_within statuses host waits in
    let sits : (share.host.index ≡ host) × (is_down Running ≡ true) = (ap (λ h. h.index) c.in-Ok.ensures.share, refl) in
    let under = taken_within ledger statuses seats c.self.invariant host new waits c.in-Ok.ensures.room c.in-Ok.ensures.ok in
    shown_more ledger statuses seats c.self.invariant host inside new Running (Some share) c.in-Ok.ensures.ok sits under ∙ ap (λ (v : RosterView). with_host v host Running true) c.self.view_is

pub returns-in-Ok-clause-safe : goal.returns-in-Ok-clause-safe
returns-in-Ok-clause-safe c =
    let ledger = c.self.inside.ledger in
    let statuses = c.self.inside.statuses.items in
    let seats = c.self.inside.seats.items in
    let host = c.args.host.index in
    let waits : is_waiting (status_at statuses host) ≡ true = subst (λ (v : RosterView). is_waiting (status_at v.statuses host) ≡ true) (sym c.self.view_is) c.requires in
    let share = c.in-Ok.share in
    let new = c.take.new.self in
    let inside = waiting_within statuses host waits in
    let sits : (share.host.index ≡ host) × (is_down Running ≡ true) = (ap (λ h. h.index) c.in-Ok.ensures.share, refl) in
    let under = taken_within ledger statuses seats c.self.invariant host new waits c.in-Ok.ensures.room c.in-Ok.ensures.ok in
    let kept = kept_more ledger statuses seats c.self.invariant host inside new Running (Some share) c.in-Ok.ensures.ok sits under in
    safe_kept new (set statuses host Running) (set seats host (Some share)) kept

pub returns-in-Err-clause-full : goal.returns-in-Err-clause-full
returns-in-Err-clause-full c =
    let ledger = c.self.inside.ledger in
    let statuses = c.self.inside.statuses.items in
    let seats = c.self.inside.seats.items in
    let host = c.args.host.index in
    let group = c.in-Err.field-0.group.index in
    let first = first_alone ledger statuses seats c.self.invariant host group c.in-Err.ensures.full in
    subst (λ (v : RosterView). IsFirstFull (groups_of v.fleet) v.statuses (host ∷ []) group) c.self.view_is first
