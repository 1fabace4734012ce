use Rattle.std.proofs.Common.{◌≡◌, ℕ, true, ◌++◌, ◌∷◌, [], List, length, sym, ap, ◌∙◌, subst, arith}
use Rattle.group_tree.specs.declared.ids.HostId.{HostId}
use Rattle.fleet_index.specs.NumberLists.{are_below}
use Rattle.domains.specs.Ids.{host_numbers}
use Rattle.fleet_states.proofs.ReadyLemmas.{ready_below}
use Rattle.event_log.specs.Events.{opened}
use Rattle.event_log.specs.States.{State}
use Rattle.event_log.specs.Logs.{MayOpen, next}
use Rattle.event_log.specs.Works.{IsFresh, IsWorkOf}
use Rattle.roll_core.specs.declared.event.Event.{Event}
use Rattle.roll_core.specs.declared.event.Event.TheVariants.{Open}
use Rattle.roll_core.specs.Views.{KernelView, roll_of, state_of, view_of, with_event}
use Rattle.roll_core.proofs.HeldLemmas.{held_opened}
use Rattle.roll_core.proofs.KeptLemmas.{kept_bare, kept_fresh, kept_grown, kept_many, kept_nobody, kept_none_out, kept_safe, state_more, view_more}
use Rattle.roll_core.proofs.PlaceLemmas.{owed_opened}
use Rattle.roll_core.proofs.kernel.Kernel.open.Goals as goal

pub take_down-requires-clause-rest : goal.take_down-requires-clause-rest
take_down-requires-clause-rest c =
    let kernel : KernelView = view_of c.self.inside.roster c.self.inside.play.now c.self.inside.forks c.self.inside.start.now c.self.inside.vars.now c.self.inside.log.items in
    let may = subst (λ (v : KernelView). MayOpen (roll_of v) (state_of v) (host_numbers c.args.hosts.now)) (sym (c.self.view_is ∙ c.in_ok-test_batch.ensures.same)) c.in_ok-test_batch.ensures.tells in
    kept_nobody kernel c.self.inside.roster c.self.inside.work _ c.self.invariant may.boundary

pub take_down-requires-clause-safe : goal.take_down-requires-clause-safe
take_down-requires-clause-safe c =
    let kernel : KernelView = view_of c.self.inside.roster c.self.inside.play.now c.self.inside.forks c.self.inside.start.now c.self.inside.vars.now c.self.inside.log.items in
    kept_safe kernel c.self.inside.roster c.self.inside.work _ c.self.invariant

pub begin-requires-clause-within : goal.begin-requires-clause-within
begin-requires-clause-within c =
    let kernel : KernelView = view_of c.self.inside.roster c.self.inside.play.now c.self.inside.forks c.self.inside.start.now c.self.inside.vars.now c.self.inside.log.items in
    let may = subst (λ (v : KernelView). MayOpen (roll_of v) (state_of v) (host_numbers c.args.hosts.now)) (sym (c.self.view_is ∙ c.in_ok-test_batch.ensures.same)) c.in_ok-test_batch.ensures.tells in
    let many : length (state_of kernel).statuses ≡ length c.self.inside.work.summaries.items = kept_many kernel c.self.inside.roster c.self.inside.work _ c.self.invariant in
    subst (λ (l : List HostId). are_below (length c.self.inside.work.summaries.items) (host_numbers l) ≡ true) (sym c.in_ok-members.ensures.items)
    (subst (λ (n : ℕ). are_below n (host_numbers c.args.hosts.now) ≡ true) many
    (ready_below (state_of kernel).statuses (host_numbers c.args.hosts.now) may.ready))

pub invariant_of-self-2 : goal.invariant_of-self-2
invariant_of-self-2 c =
    let old = c.self.inside.roster in
    let work = c.self.inside.work in
    let new = c.take_down.new.roster in
    let log = c.self.inside.log.items in
    let kernel : KernelView = view_of old c.self.inside.play.now c.self.inside.forks c.self.inside.start.now c.self.inside.vars.now log in
    let kept = c.self.invariant in
    let numbers : List ℕ = host_numbers c.args.hosts.now in
    let may = subst (λ (v : KernelView). MayOpen (roll_of v) (state_of v) numbers) (sym (c.self.view_is ∙ c.in_ok-test_batch.ensures.same)) c.in_ok-test_batch.ensures.tells in
    let members : host_numbers c.in_ok-members.members.items ≡ numbers = ap host_numbers c.in_ok-members.ensures.items in
    let fresh = subst (IsFresh (state_of kernel)) (sym members) (kept_fresh kernel old work _ kept numbers may) in
    let begun = subst (λ (l : List ℕ). IsWorkOf (roll_of kernel) (next (roll_of kernel) (state_of kernel) (opened l)) c.begin.new.self) members
    (c.begin.ensures (roll_of kernel) (state_of kernel) kept.held.works may.boundary fresh) in
    let none = kept_none_out kernel old work _ kept may.boundary in
    let owes = owed_opened (roll_of kernel) (state_of kernel) numbers none in
    let reserves = c.in_ok-reserve.ensures in
    let grown = c.keep.ensures.items ∙ ap (λ (l : List Event). l ++ Open c.in_ok-batch.batch ∷ []) reserves.items in
    kept_grown old new c.self.inside.play.now c.self.inside.forks c.self.inside.start.now c.self.inside.vars.now log c.keep.new.items.items
    (Open c.in_ok-batch.batch) (opened numbers) work c.begin.new.self _ _ kept (ap opened c.in_ok-batch.ensures) c.take_down.ensures.fleet grown
    may
    (held_opened (roll_of kernel) (state_of kernel) old work kept.held numbers new c.begin.new.self (kept_bare kernel old work _ kept may.boundary) none c.take_down.ensures begun)
    (omega (arith, owes, ap length c.steps.ensures.value, reserves.ok, reserves.len, c.self.inside.log.ok, c.keep.ensures.capacity))

pub returns-clause-working : goal.returns-clause-working
returns-clause-working c =
    let old = c.self.inside.roster in
    let new = c.take_down.new.roster in
    let log = c.self.inside.log.items in
    let kernel : KernelView = view_of old c.self.inside.play.now c.self.inside.forks c.self.inside.start.now c.self.inside.vars.now log in
    let numbers : List ℕ = host_numbers c.args.hosts.now in
    let grown = c.keep.ensures.items ∙ ap (λ (l : List Event). l ++ Open c.in_ok-batch.batch ∷ []) c.in_ok-reserve.ensures.items in
    let seen = view_more old new c.self.inside.play.now c.self.inside.forks c.self.inside.start.now c.self.inside.vars.now log c.keep.new.items.items
    (Open c.in_ok-batch.batch) c.take_down.ensures.fleet grown ∙ ap (λ hosts. with_event kernel (opened hosts)) c.in_ok-batch.ensures in
    ap (λ (v : KernelView). (state_of v).phase) seen ∙ ap (λ (s : State). s.phase) (state_more kernel (opened numbers))
