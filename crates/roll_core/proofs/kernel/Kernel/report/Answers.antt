use Rattle.std.proofs.Common.{◌≡◌, true, Some, cond, sym, ap, ◌∙◌, subst, refl, arith}
use Rattle.std.specs.List.{slice_get}
use Rattle.std.proofs.lemmas.List.{length-map}
use Rattle.group_tree.specs.declared.ids.HostId.{HostId}
use Rattle.fleet_states.specs.declared.status.Status.{Status}
use Rattle.fleet_states.specs.declared.status.Status.TheVariants.{Running, Failed}
use Rattle.fleet_states.specs.Statuses.{is_down, status_at}
use Rattle.play_model.specs.declared.play.Play.{Play}
use Rattle.host_track.specs.Tracks.{step_at}
use Rattle.host_track.specs.declared.outcome.Outcome.{Outcome}
use Rattle.host_track.specs.Endings.{ending_of}
use Rattle.down_ledger.specs.Rosters.{RosterView, with_host}
use Rattle.event_log.specs.Events.{reported}
use Rattle.event_log.specs.Logs.{MayReport}
use Rattle.event_log.proofs.WorkLemmas.{runs}
use Rattle.roll_core.specs.declared.event.Event.TheVariants.{Report}
use Rattle.roll_core.specs.Claims.{IsOut}
use Rattle.roll_core.specs.Views.{KernelView, event_of, roll_of, state_of, view_of}
use Rattle.roll_core.specs.Ways.{Completed, completed, outcome_in}
use Rattle.roll_core.proofs.KeptLemmas.{kept_at_work, kept_grown}
use Rattle.roll_core.proofs.PlaceLemmas.{owed_reported}
use Rattle.roll_core.proofs.ReportLemmas.{held_reported}
use Rattle.roll_core.proofs.StepLemmas.{ends_as, may_report, out_given}
use Rattle.event_log.specs.Rows.{IsFoundAt}
use Rattle.roll_core.proofs.kernel.Kernel.report.Goals as goal

pub enter-entered-requires-clause-place : goal.enter-entered-requires-clause-place
enter-entered-requires-clause-place c =
    let work = c.self.inside.work in
    let kernel : KernelView = view_of c.self.inside.roster c.self.inside.play.now c.self.inside.forks c.self.inside.start.now c.self.inside.vars.now c.self.inside.log.items in
    let works = c.self.invariant.held.works in
    let mine : Completed = completed c.completion.inside.share.host.index c.completion.inside.step c.completion.inside.way in
    let told : IsOut (roll_of kernel) (state_of kernel) c.args.completion = (c.is_out_for.ensures (roll_of kernel) (state_of kernel) works).0 c.if-not-is_out_for.false in
    let out = subst (IsOut (roll_of kernel) (state_of kernel)) (sym c.completion.view_is) told in
    let given = out_given (roll_of kernel) (state_of kernel) work works mine.host out.out in
    λ summary task got named.
    let here : slice_get work.summaries.items mine.host ≡ Some summary = sym (ap (λ (h : HostId). slice_get work.summaries.items h.index) c.host-host.ensures) ∙ got in
    let asks = sym (ap (λ (p : Play). step_at p mine.step) works.play) ∙ named in
    (works.given mine.host mine.step given.0 summary task given.1 here out.at asks).place

pub rest-requires-clause-was : goal.rest-requires-clause-was
rest-requires-clause-was c =
    let work = c.self.inside.work in
    let kernel : KernelView = view_of c.self.inside.roster c.self.inside.play.now c.self.inside.forks c.self.inside.start.now c.self.inside.vars.now c.self.inside.log.items in
    let kept = c.self.invariant in
    let mine : Completed = completed c.completion.inside.share.host.index c.completion.inside.step c.completion.inside.way in
    let told : IsOut (roll_of kernel) (state_of kernel) c.args.completion = (c.is_out_for.ensures (roll_of kernel) (state_of kernel) kept.held.works).0 c.if-not-is_out_for.false in
    let out = subst (IsOut (roll_of kernel) (state_of kernel)) (sym c.completion.view_is) told in
    ap is_down (ap (λ l. status_at l mine.host) kept.held.statuses ∙ runs (roll_of kernel) (state_of kernel) mine.host mine.step (kept_at_work kernel c.self.inside.roster work _ kept) out.out out.at)

pub invariant_of-self : goal.invariant_of-self
invariant_of-self c =
    let old = c.self.inside.roster in
    let work = c.self.inside.work in
    let log = c.self.inside.log.items in
    let kernel : KernelView = view_of old c.self.inside.play.now c.self.inside.forks c.self.inside.start.now c.self.inside.vars.now log in
    let kept = c.self.invariant in
    let way = c.completion.inside.way in
    let step = c.completion.inside.step in
    let host : HostId = c.host-host.result in
    let outcome : Outcome = c.into_outcome-outcome.result in
    let mine : Completed = completed c.completion.inside.share.host.index c.completion.inside.step c.completion.inside.way in
    let told : IsOut (roll_of kernel) (state_of kernel) c.args.completion = (c.is_out_for.ensures (roll_of kernel) (state_of kernel) kept.held.works).0 c.if-not-is_out_for.false in
    let out = subst (IsOut (roll_of kernel) (state_of kernel)) (sym c.completion.view_is) told in
    let reports = may_report (roll_of kernel) (state_of kernel) mine (ends_as way c.completion.invariant.ends) out in
    let of_host = subst (λ (h : HostId). MayReport (roll_of kernel) (state_of kernel) h.index step (ending_of (outcome_in way))) (sym c.host-host.ensures) reports in
    let may = subst (λ (o : Outcome). MayReport (roll_of kernel) (state_of kernel) host.index step (ending_of o)) (sym c.into_outcome-outcome.ensures) of_host in
    let entered = c.enter-entered.ensures.work (roll_of kernel) (state_of kernel) kept.held.works may in
    let failed = c.enter-entered.ensures.failed (roll_of kernel) (state_of kernel) kept.held.works may in
    let shown : c.rest.new.self ≡ with_host old host.index (cond c.enter-entered.result.failed Failed Running) true =
    c.rest.ensures ∙ ap (λ (h : HostId). with_host old h.index c.status_after.result true) (sym c.host-host.ensures)
    ∙ ap (λ (s : Status). with_host old host.index s true) c.status_after.ensures in
    let owes = owed_reported (roll_of kernel) (state_of kernel) host.index step (ending_of outcome) kept.held.works.single may.claimed in
    kept_grown old c.rest.new.self c.self.inside.play.now c.self.inside.forks c.self.inside.start.now c.self.inside.vars.now log c.keep.new.items.items
    (Report host step outcome) (reported host.index step (ending_of outcome)) work c.enter-entered.new.self _ _ kept refl
    (ap (λ (r : RosterView). r.fleet) c.rest.ensures) c.keep.ensures.items may
    (held_reported (roll_of kernel) (state_of kernel) old work kept.held (kept_at_work kernel old work _ kept) host.index step (ending_of outcome)
    may c.enter-entered.result.failed c.rest.new.self c.enter-entered.new.self failed shown entered)
    (omega (arith, owes, kept.places, length-map log event_of, c.keep.ensures.capacity))

pub returns-clause-allowed : goal.returns-clause-allowed
returns-clause-allowed c =
    let kernel : KernelView = view_of c.self.inside.roster c.self.inside.play.now c.self.inside.forks c.self.inside.start.now c.self.inside.vars.now c.self.inside.log.items in
    let out : IsOut (roll_of kernel) (state_of kernel) c.args.completion = (c.is_out_for.ensures (roll_of kernel) (state_of kernel) c.self.invariant.held.works).0 c.if-not-is_out_for.false in
    subst (λ (v : KernelView). IsOut (roll_of v) (state_of v) c.args.completion) c.self.view_is out

pub returns-clause-found : goal.returns-clause-found
returns-clause-found c =
    let kernel : KernelView = view_of c.self.inside.roster c.self.inside.play.now c.self.inside.forks c.self.inside.start.now c.self.inside.vars.now c.self.inside.log.items in
    let roll = roll_of kernel in
    let state = state_of kernel in
    let inside = c.completion.inside in
    let mine : Completed = completed inside.share.host.index inside.step inside.way in
    let entered = c.enter-entered.result in
    let found = c.enter-entered.ensures.found roll state c.self.invariant.held.works in
    let of_host = subst (λ (h : HostId). IsFoundAt roll state h.index inside.step (ending_of c.into_outcome-outcome.result) entered) c.host-host.ensures found in
    let of_way = subst (λ (o : Outcome). IsFoundAt roll state inside.share.host.index inside.step (ending_of o) entered) c.into_outcome-outcome.ensures of_host in
    let of_given = subst (λ (m : Completed). IsFoundAt roll state m.host m.step m.ending entered) c.completion.view_is of_way in
    subst (λ (v : KernelView). IsFoundAt (roll_of v) (state_of v) c.args.completion.host c.args.completion.step c.args.completion.ending entered) c.self.view_is of_given
