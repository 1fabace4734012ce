use Rattle.std.proofs.Common.{◌++◌, ◌∷◌, [], Option, List, sym, ap, ◌∙◌, subst, refl, arith}
use Rattle.host_track.specs.Asking.{Request}
use Rattle.down_ledger.specs.Rosters.{RosterView}
use Rattle.event_log.specs.Events.{claimed}
use Rattle.event_log.specs.declared.assignment.Assignment.{Assignment}
use Rattle.event_log.specs.Works.{IsClaim, IsTaken}
use Rattle.roll_core.specs.declared.event.Event.{Event}
use Rattle.roll_core.specs.declared.event.Event.TheVariants.{Claim}
use Rattle.roll_core.specs.Claims.{IsClaimedAs, IsHandedOut}
use Rattle.roll_core.specs.Views.{KernelView, roll_of, state_of, view_of}
use Rattle.roll_core.specs.KernelInside.{owed_by}
use Rattle.roll_core.proofs.HeldLemmas.{held_claimed}
use Rattle.roll_core.proofs.KeptLemmas.{kept_grown, view_more}
use Rattle.roll_core.proofs.PlaceLemmas.{owed_claimed}
use Rattle.roll_core.proofs.StepLemmas.{stage_at, task_at}
use Rattle.roll_core.proofs.kernel.Kernel.claim.Goals as goal

pub invariant_of-self-2 : goal.invariant_of-self-2
invariant_of-self-2 c =
    let old = c.self.inside.roster in
    let work = c.self.inside.work in
    let new = c.lend-share.new.self in
    let log = c.self.inside.log.items in
    let kernel : KernelView = view_of old c.self.inside.play.now c.self.inside.forks c.self.inside.start.now c.self.inside.vars.now log in
    let kept = c.self.invariant in
    let taken = c.in-Some.taken in
    let takes : IsTaken (roll_of kernel) (state_of kernel) c.claim.new.self taken =
    subst (λ (o : Option Assignment). IsClaim (roll_of kernel) (state_of kernel) c.claim.new.self o) c.in-Some.is
    (c.in_ok-taken.ensures.ok (roll_of kernel) (state_of kernel) kept.held.works refl) in
    let owes = owed_claimed (roll_of kernel) (state_of kernel) taken.host.index taken.step in
    let owed = c.owed-owed.ensures ∙ ap (λ (v : KernelView). owed_by (roll_of v) (state_of v)) (sym c.self.view_is) in
    let reserves = c.in_ok-reserve.ensures in
    let grown = c.keep.ensures.items ∙ ap (λ (l : List Event). l ++ Claim taken.host taken.step ∷ []) reserves.items in
    kept_grown old new c.self.inside.play.now c.self.inside.forks c.self.inside.start.now c.self.inside.vars.now log c.keep.new.items.items
    (Claim taken.host taken.step) (claimed taken.host.index taken.step) work c.claim.new.self _ _ kept refl
    (ap (λ (r : RosterView). r.fleet) c.lend-share.ensures.rest) grown takes.may
    (held_claimed (roll_of kernel) (state_of kernel) old work kept.held taken.host.index taken.step new c.claim.new.self c.lend-share.ensures.rest takes.work)
    (omega (arith, owes, owed, reserves.ok, reserves.len, c.self.inside.log.ok, c.keep.ensures.capacity))

pub returns-clause-ok : goal.returns-clause-ok
returns-clause-ok c =
    let old = c.self.inside.roster in
    let work = c.self.inside.work in
    let new = c.lend-share.new.self in
    let log = c.self.inside.log.items in
    let view : RosterView → List Event → KernelView = λ r l. view_of r c.self.inside.play.now c.self.inside.forks c.self.inside.start.now c.self.inside.vars.now l in
    let kernel : KernelView = view old log in
    let kept = c.self.invariant in
    let taken = c.in-Some.taken in
    let takes : IsTaken (roll_of kernel) (state_of kernel) c.claim.new.self taken =
    subst (λ (o : Option Assignment). IsClaim (roll_of kernel) (state_of kernel) c.claim.new.self o) c.in-Some.is
    (c.in_ok-taken.ensures.ok (roll_of kernel) (state_of kernel) kept.held.works refl) in
    let at = stage_at work.stage taken.step (kept.held.works.phase ∙ takes.may.at) in
    let task = task_at (roll_of kernel) (state_of kernel) work kept.held.works taken.step at in
    let reserves = c.in_ok-reserve.ensures in
    let grown = c.keep.ensures.items ∙ ap (λ (l : List Event). l ++ Claim taken.host taken.step ∷ []) reserves.items in
    let seen = view_more old new c.self.inside.play.now c.self.inside.forks c.self.inside.start.now c.self.inside.vars.now log c.keep.new.items.items
    (Claim taken.host taken.step) (ap (λ (r : RosterView). r.fleet) c.lend-share.ensures.rest) grown in
    let made : IsHandedOut kernel (view new c.keep.new.items.items) c.claimed.result = record {
      host = taken.host.index;
      step = taken.step;
      task = task.0;
      first = takes.first;
      may = takes.may;
      at = task.1;
      handed = subst (λ (r : Request). IsClaimedAs taken.host.index taken.step r c.claimed.result) (takes.asks task.0 task.1) c.claimed.ensures;
      grown = seen;
    } in
    subst (λ (v : KernelView). IsHandedOut v (view new c.keep.new.items.items) c.claimed.result) c.self.view_is made
