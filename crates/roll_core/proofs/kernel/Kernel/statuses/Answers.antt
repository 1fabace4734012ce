use Rattle.std.proofs.Common.{◌≡◌, length, sym, ap, ◌∙◌, subst}
use Rattle.fleet_states.specs.Statuses.{NobodyRuns}
use Rattle.fleet_states.specs.Groups.{IsSafe, groups_of}
use Rattle.event_log.specs.States.{between}
use Rattle.roll_core.specs.Views.{KernelView, state_of, view_of}
use Rattle.roll_core.proofs.KeptLemmas.{kept_rest}
use Rattle.roll_core.proofs.kernel.Kernel.statuses.Goals as goal

pub returns-clause-value : goal.returns-clause-value
returns-clause-value c =
    subst (λ (v : KernelView). c.statuses.result.now ≡ (state_of v).statuses) c.self.view_is (c.statuses.ensures.value ∙ c.self.invariant.held.statuses)

pub returns-clause-all : goal.returns-clause-all
returns-clause-all c =
    subst (λ (v : KernelView). length c.statuses.result.now ≡ length v.fleet.hosts) c.self.view_is (ap length c.statuses.ensures.value ∙ c.statuses.ensures.all)

pub returns-clause-safe : goal.returns-clause-safe
returns-clause-safe c =
    let safe = subst (IsSafe (groups_of c.self.inside.roster.fleet)) (sym c.statuses.ensures.value) c.statuses.ensures.safe in
    subst (λ (v : KernelView). IsSafe (groups_of v.fleet) c.statuses.result.now) c.self.view_is safe

pub returns-clause-rests : goal.returns-clause-rests
returns-clause-rests c =
    let kernel : KernelView = view_of c.self.inside.roster c.self.inside.play.now c.self.inside.forks c.self.inside.start.now c.self.inside.vars.now c.self.inside.log.items in
    let rests : (state_of kernel).phase ≡ between → NobodyRuns c.statuses.result.now =
    λ at. subst NobodyRuns (sym c.statuses.ensures.value) (kept_rest kernel c.self.inside.roster c.self.inside.work _ c.self.invariant at) in
    subst (λ (v : KernelView). (state_of v).phase ≡ between → NobodyRuns c.statuses.result.now) c.self.view_is rests
