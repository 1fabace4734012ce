use Rattle.std.proofs.Common.{ℕ, ◌++◌, ◌∷◌, [], List, sym, ap, ◌∙◌, subst, arith}
use Rattle.domains.specs.Ids.{host_numbers}
use Rattle.down_ledger.specs.Rosters.{RosterView}
use Rattle.event_log.specs.Events.{set_aside}
use Rattle.event_log.specs.Logs.{MaySetAside}
use Rattle.roll_core.specs.declared.event.Event.{Event}
use Rattle.roll_core.specs.declared.event.Event.TheVariants.{Hold}
use Rattle.roll_core.specs.Views.{KernelView, roll_of, state_of, view_of}
use Rattle.roll_core.proofs.HeldLemmas.{held_aside}
use Rattle.roll_core.proofs.KeptLemmas.{kept_grown, kept_none_out}
use Rattle.roll_core.proofs.PlaceLemmas.{owed_between}
use Rattle.roll_core.proofs.kernel.Kernel.hold.Goals as goal

pub invariant_of-self-2 : goal.invariant_of-self-2
invariant_of-self-2 c =
    let old = c.self.inside.roster in
    let new = c.set_all_aside.new.self in
    let log = c.self.inside.log.items in
    let kernel : KernelView = view_of old c.self.inside.play.now c.self.inside.forks c.self.inside.start.now c.self.inside.vars.now log in
    let kept = c.self.invariant in
    let numbers : List ℕ = host_numbers c.args.hosts.now in
    let may = subst (λ (v : KernelView). MaySetAside (roll_of v) (state_of v) numbers) (sym (c.self.view_is ∙ c.in_ok-test_hold.ensures.same)) c.in_ok-test_hold.ensures.tells in
    let none = owed_between (roll_of kernel) (state_of kernel) may.boundary (kept_none_out kernel old c.self.inside.work _ kept may.boundary) in
    let reserves = c.in_ok-reserve.ensures in
    let grown = c.keep.ensures.items ∙ ap (λ (l : List Event). l ++ Hold c.in_ok-batch.batch ∷ []) reserves.items in
    kept_grown old new c.self.inside.play.now c.self.inside.forks c.self.inside.start.now c.self.inside.vars.now log c.keep.new.items.items
    (Hold c.in_ok-batch.batch) (set_aside numbers) c.self.inside.work c.self.inside.work _ _ kept (ap set_aside c.in_ok-batch.ensures)
    (ap (λ (r : RosterView). r.fleet) c.set_all_aside.ensures) grown may
    (held_aside (roll_of kernel) (state_of kernel) old c.self.inside.work kept.held numbers new c.set_all_aside.ensures)
    (omega (arith, none, reserves.ok, reserves.len, c.self.inside.log.ok, c.keep.ensures.capacity))
