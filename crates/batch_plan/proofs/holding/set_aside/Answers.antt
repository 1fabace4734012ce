use Rattle.std.proofs.Common.{◌<◌, ◌≤◌, ℕ, List, length, get_or, set, sym, ap, ◌∙◌, refl, subst}
use Rattle.group_tree.specs.declared.ids.HostId.{HostId}
use Rattle.fleet_states.specs.declared.status.Status.{Status}
use Rattle.fleet_states.specs.declared.status.Status.TheVariants.{Held}
use Rattle.fleet_states.proofs.StatusLemmas.{changed_none}
use Rattle.batch_plan.proofs.BeginningLemmas.{named_here, named_past}
use Rattle.batch_plan.proofs.holding.set_aside.Goals as goal
use Rattle.batch_plan.proofs.holding.set_aside.Goals.{then-host-statuses, else-host-statuses}

pub loop-host-init : goal.loop-host-init
loop-host-init c = sym (changed_none (λ _. Held) c.args.statuses.now)

pub loop-host-preserved : goal.loop-host-preserved
loop-host-preserved c =
    let hosts = c.args.hosts.now in
    let statuses = c.args.statuses.now in
    let i : ℕ = c.loop-host.host-index in
    let none : HostId = record { index = 0 } in
    let at : ℕ = (get_or hosts i none).index in
    let was = c.loop-host.invariant in
    elim c.if-host-statuses.branch [
      | then-host-statuses w ↦ w.statuses-is ∙ ap (λ (l : List Status). set l at Held) was
          ∙ named_here (λ _. Held) (λ s. refl) hosts i none c.loop-host-test.true statuses Held (subst (λ (l : List Status). at < length l) was w.if-host-statuses.true) refl
      | else-host-statuses w ↦ w.statuses-is ∙ was
          ∙ named_past (λ _. Held) (λ s. refl) hosts i none c.loop-host-test.true statuses (subst (λ (l : List Status). length l ≤ at) was w.if-host-statuses.false)
    ]
