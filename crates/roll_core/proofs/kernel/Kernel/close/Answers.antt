use Rattle.std.proofs.Common.{◌≡◌, ℕ, Bool, true, false, if◌then◌else◌, List, sym, ap, ◌∙◌, subst, refl, arith, Option}
use Rattle.std.proofs.lemmas.List.{length-map}
use Rattle.fleet_index.specs.NumberLists.{has_number}
use Rattle.domains.specs.Ids.{host_numbers}
use Rattle.fleet_states.specs.declared.status.Status.{Status}
use Rattle.fleet_states.specs.declared.status.Status.TheVariants.{Running, Failed}
use Rattle.fleet_states.specs.Statuses.{is_down, status_at}
use Rattle.host_track.specs.Tracks.{has_failed}
use Rattle.fleet_states.specs.Batches.{statuses_after}
use Rattle.down_ledger.specs.Rosters.{HasChanged, RosterView}
use Rattle.event_log.specs.Columns.{Columns, Tells, fails_by}
use Rattle.event_log.specs.Events.{closed}
use Rattle.event_log.specs.States.{Phase, State, at_rest, ended}
use Rattle.event_log.specs.Logs.{closed_state, next}
use Rattle.event_log.proofs.ColumnFronts.{ends_by_columns}
use Rattle.event_log.specs.declared.stage.Stage.TheVariants.{Ended}
use Rattle.roll_core.specs.declared.event.Event.{Event}
use Rattle.roll_core.specs.declared.event.Event.TheVariants.{Close}
use Rattle.roll_core.specs.Views.{KernelView, event_of, roll_of, state_of, view_of}
use Rattle.roll_core.proofs.HeldLemmas.{held_closed}
use Rattle.roll_core.proofs.KeptLemmas.{kept_at_work, kept_grown, kept_over_out, kept_phase, state_more, view_more}
use Rattle.roll_core.proofs.PlaceLemmas.{owed_closed}
use Rattle.roll_core.proofs.kernel.Kernel.close.Goals as goal

down_in_batch : (failed : Bool) → is_down (if failed then Failed else Running) ≡ true
down_in_batch true = refl
down_in_batch false = refl

pub end_hosts-requires-clause-down : goal.end_hosts-requires-clause-down
end_hosts-requires-clause-down c =
    let kernel : KernelView = view_of c.self.inside.roster c.self.inside.play.now c.self.inside.forks c.self.inside.start.now c.self.inside.vars.now c.self.inside.log.items in
    let state = state_of kernel in
    let kept = c.self.invariant in
    let members = ap host_numbers c.batch.ensures ∙ kept.held.works.batch in
    λ host here.
    let works = (kept_at_work kernel c.self.inside.roster c.self.inside.work _ kept).works host (sym (ap (has_number host) members) ∙ here) in
    ap (λ (l : List Status). is_down (status_at l host)) kept.held.statuses ∙ ap is_down works ∙ down_in_batch (has_failed (state.rows host))

pub invariant_of-self : goal.invariant_of-self
invariant_of-self c =
    let old = c.self.inside.roster in
    let work = c.self.inside.work in
    let log = c.self.inside.log.items in
    let kernel : KernelView = view_of old c.self.inside.play.now c.self.inside.forks c.self.inside.start.now c.self.inside.vars.now log in
    let kept = c.self.invariant in
    let halt = c.in-Ended.halt in
    let at = kept_phase kernel old work _ kept (Ended halt) (sym c.stage.ensures ∙ c.in-Ended.is) in
    let members = ap host_numbers c.batch.ensures ∙ kept.held.works.batch in
    let changes = subst (λ (l : List ℕ). HasChanged old c.end_hosts.new.roster l (at_rest halt) false) members c.end_hosts.ensures in
    let over = c.end.ensures (roll_of kernel) (state_of kernel) halt kept.held.works at (kept_over_out kernel old work _ kept halt at) in
    let owes = owed_closed (roll_of kernel) (state_of kernel) halt at in
    kept_grown old c.end_hosts.new.roster c.self.inside.play.now c.self.inside.forks c.self.inside.start.now c.self.inside.vars.now log
    c.keep.new.items.items Close closed work c.end.new.self _ _ kept refl c.end_hosts.ensures.fleet c.keep.ensures.items
    (record { halt = halt; at = at })
    (held_closed (roll_of kernel) (state_of kernel) old work kept.held halt c.end_hosts.new.roster c.end.new.self at changes over)
    (omega (arith, owes, kept.places, length-map log event_of, c.keep.ensures.capacity))

pub returns-clause-boundary : goal.returns-clause-boundary
returns-clause-boundary c =
    let old = c.self.inside.roster in
    let log = c.self.inside.log.items in
    let kernel : KernelView = view_of old c.self.inside.play.now c.self.inside.forks c.self.inside.start.now c.self.inside.vars.now log in
    let at = kept_phase kernel old c.self.inside.work _ c.self.invariant (Ended c.in-Ended.halt) (sym c.stage.ensures ∙ c.in-Ended.is) in
    let seen = view_more old c.end_hosts.new.roster c.self.inside.play.now c.self.inside.forks c.self.inside.start.now c.self.inside.vars.now log
    c.keep.new.items.items Close c.end_hosts.ensures.fleet c.keep.ensures.items in
    ap (λ (v : KernelView). (state_of v).phase) seen ∙ ap (λ (s : State). s.phase) (state_more kernel closed) ∙ ap (λ (p : Phase). (closed_state p (state_of kernel)).phase) at

pub returns-clause-legal : goal.returns-clause-legal
returns-clause-legal c = (invariant_of-self c).legal

pub returns-clause-statuses : goal.returns-clause-statuses
returns-clause-statuses c =
    let old = c.self.inside.roster in
    let log = c.self.inside.log.items in
    let view : RosterView → List Event → KernelView = λ r l. view_of r c.self.inside.play.now c.self.inside.forks c.self.inside.start.now c.self.inside.vars.now l in
    let kernel : KernelView = view old log in
    let seen = view_more old c.end_hosts.new.roster c.self.inside.play.now c.self.inside.forks c.self.inside.start.now c.self.inside.vars.now log
    c.keep.new.items.items Close c.end_hosts.ensures.fleet c.keep.ensures.items in
    let left : List Status = (state_of (view c.end_hosts.new.roster c.keep.new.items.items)).statuses in
    let grown : left ≡ (next (roll_of kernel) (state_of kernel) closed).statuses = ap (λ (v : KernelView). (state_of v).statuses) seen ∙ ap (λ (s : State). s.statuses) (state_more kernel closed) in
    let Ends : KernelView → Type 0 = λ v. (columns : Columns) (halt : Option ℕ) → Tells columns (roll_of v) v.log → (state_of v).phase ≡ ended halt
    → left ≡ statuses_after halt (fails_by (roll_of v) columns) (state_of v).batch (state_of v).opening in
    subst Ends c.self.view_is (λ columns halt tells at. grown ∙ (ends_by_columns (roll_of kernel) kernel.log columns halt c.self.invariant.legal tells at).statuses)
