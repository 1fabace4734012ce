use Rattle.std.proofs.Common.{◌≡◌, ℕ, suc, true, false, List, option_map, sym, ap, ◌∙◌, subst, refl, arith}
use Rattle.std.proofs.lemmas.List.{length-map}
use Rattle.group_tree.specs.declared.ids.HostId.{HostId}
use Rattle.fleet_index.specs.NumberLists.{has_number}
use Rattle.event_log.specs.Events.{passed}
use Rattle.event_log.specs.States.{Phase, State, has_row, phase_after}
use Rattle.event_log.specs.Logs.{MayPass}
use Rattle.event_log.proofs.WorkLemmas.{passed_out}
use Rattle.event_log.specs.Works.{phase_of}
use Rattle.roll_core.specs.declared.event.Event.TheVariants.{Barrier}
use Rattle.roll_core.specs.Barriers.{HasPassed, IsNext}
use Rattle.roll_core.specs.KernelInside.{GoesOn}
use Rattle.roll_core.specs.declared.event.Event.{Event}
use Rattle.roll_core.specs.Views.{KernelView, event_of, roll_of, state_of, view_of}
use Rattle.roll_core.proofs.HeldLemmas.{held_passed}
use Rattle.roll_core.proofs.KeptLemmas.{kept_at_work, kept_behind, kept_few, kept_grown, state_more, view_more}
use Rattle.roll_core.proofs.PlaceLemmas.{owed_passed}
use Rattle.roll_core.proofs.StepLemmas.{goes_on, may_pass, step_within}
use Rattle.roll_core.proofs.kernel.Kernel.barrier.Goals as goal

pub pass-requires-clause-few : goal.pass-requires-clause-few
pass-requires-clause-few c =
    let kernel : KernelView = view_of c.self.inside.roster c.self.inside.play.now c.self.inside.forks c.self.inside.start.now c.self.inside.vars.now c.self.inside.log.items in
    omega (arith, kept_few kernel c.self.inside.roster c.self.inside.work _ c.self.invariant)

pub invariant_of-self : goal.invariant_of-self
invariant_of-self c =
    let old = c.self.inside.roster in
    let work = c.self.inside.work in
    let log = c.self.inside.log.items in
    let kernel : KernelView = view_of old c.self.inside.play.now c.self.inside.forks c.self.inside.start.now c.self.inside.vars.now log in
    let kept = c.self.invariant in
    let step = c.in-Working.step in
    let at = sym c.stage.ensures ∙ c.in-Working.is in
    let nobody = sym c.first_awaited.ensures ∙ ap (option_map (λ (host : HostId). host.index)) c.in-None.is in
    let may : MayPass (roll_of kernel) (state_of kernel) step = may_pass (roll_of kernel) (state_of kernel) work kept.held.works step at nobody in
    let none = passed_out kernel.play (state_of kernel) step (kept_at_work kernel old work _ kept) may.at may.reported in
    let ahead : (host : ℕ) → has_number host (state_of kernel).batch ≡ true → has_row ((state_of kernel).rows host) (suc step) ≡ false =
    λ host here. (kept_behind kernel old work _ kept).rows host step (suc step) may.at here (omega arith) in
    let passes = c.pass.ensures (roll_of kernel) (state_of kernel) kept.held.works may none ahead in
    let owes = owed_passed (roll_of kernel) (state_of kernel) step may.at (step_within (roll_of kernel) (state_of kernel) work kept.held.works step at) in
    kept_grown old old c.self.inside.play.now c.self.inside.forks c.self.inside.start.now c.self.inside.vars.now log c.keep.new.items.items
    (Barrier step) (passed step) work c.pass.new.self _ _ kept refl refl c.keep.ensures.items may
    (held_passed (roll_of kernel) (state_of kernel) old work kept.held step c.pass.new.self passes)
    (omega (arith, owes, kept.places, length-map log event_of, c.keep.ensures.capacity))

pub returns-clause-ok : goal.returns-clause-ok
returns-clause-ok c =
    let old = c.self.inside.roster in
    let work = c.self.inside.work in
    let log = c.self.inside.log.items in
    let view : List Event → KernelView = λ l. view_of old c.self.inside.play.now c.self.inside.forks c.self.inside.start.now c.self.inside.vars.now l in
    let kernel : KernelView = view log in
    let kept = c.self.invariant in
    let step = c.in-Working.step in
    let at = sym c.stage.ensures ∙ c.in-Working.is in
    let nobody = sym c.first_awaited.ensures ∙ ap (option_map (λ (host : HostId). host.index)) c.in-None.is in
    let may : MayPass (roll_of kernel) (state_of kernel) step = may_pass (roll_of kernel) (state_of kernel) work kept.held.works step at nobody in
    let none = passed_out kernel.play (state_of kernel) step (kept_at_work kernel old work _ kept) may.at may.reported in
    let ahead : (host : ℕ) → has_number host (state_of kernel).batch ≡ true → has_row ((state_of kernel).rows host) (suc step) ≡ false =
    λ host here. (kept_behind kernel old work _ kept).rows host step (suc step) may.at here (omega arith) in
    let passes = c.pass.ensures (roll_of kernel) (state_of kernel) kept.held.works may none ahead in
    let seen = view_more old old c.self.inside.play.now c.self.inside.forks c.self.inside.start.now c.self.inside.vars.now log c.keep.new.items.items (Barrier step) refl c.keep.ensures.items in
    let at_stage : phase_of c.stage-2.result ≡ phase_after kernel.play (state_of kernel) step = ap phase_of c.stage-2.ensures ∙ passes.phase in
    let in_log : (state_of (view c.keep.new.items.items)).phase ≡ phase_after kernel.play (state_of kernel) step =
    ap (λ (v : KernelView). (state_of v).phase) seen ∙ ap (λ (s : State). s.phase) (state_more kernel (passed step)) in
    let told = c.next_of.ensures step (subst (GoesOn step) (sym at_stage) (goes_on kernel.play (state_of kernel) step)) in
    let made : HasPassed kernel (view c.keep.new.items.items) c.next_of.result = record {
      step = step;
      may = may;
      grown = seen;
      next = subst (λ (phase : Phase). IsNext step phase c.next_of.result) (at_stage ∙ sym in_log) told;
    } in
    subst (λ (v : KernelView). HasPassed v (view c.keep.new.items.items) c.next_of.result) c.self.view_is made
