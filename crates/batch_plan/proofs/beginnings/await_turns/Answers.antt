use Rattle.std.proofs.Common.{◌<◌, ◌≤◌, ℕ, List, Vec, Global, length, get_or, set, sym, ap, ◌∙◌, subst, arith}
use Rattle.std.proofs.lemmas.List.{get_or_default}
use Rattle.group_tree.specs.declared.ids.HostId.{HostId}
use Rattle.fleet_states.specs.declared.status.Status.{Status}
use Rattle.fleet_states.specs.declared.status.Status.TheVariants.{Idle}
use Rattle.fleet_states.specs.Statuses.{status_at}
use Rattle.fleet_states.proofs.StatusLemmas.{changed_none}
use Rattle.batch_plan.specs.Inside.{awaited}
use Rattle.batch_plan.proofs.BeginningLemmas.{awaited_again, named_here, named_past}
use Rattle.batch_plan.proofs.beginnings.await_turns.Goals as goal
use Rattle.batch_plan.proofs.beginnings.await_turns.Goals.{then-host-len, else-host-len}

pub loop-host-init : goal.loop-host-init
loop-host-init c = sym (changed_none awaited c.args.statuses.now.items)

pub loop-host-preserved : goal.loop-host-preserved
loop-host-preserved c =
    let hosts = c.args.target.now in
    let statuses = c.args.statuses.now.items in
    let i : ℕ = c.loop-host.host-index in
    let none : HostId = record { index = 0 } in
    let at : ℕ = (get_or hosts i none).index in
    let was = c.loop-host.invariant in
    let items_of = λ (v : Vec Status Global). v.items in
    let within : i < length hosts = c.loop-host-test.true in
    elim c.if-host-len.branch [
      | then-host-len w ↦
          let inside : at < length c.loop-host.statuses.items = omega (arith, c.len.ensures, w.if-host-len.true) in
          let now = w.await_turn.ensures ∙ ap awaited (w.index.ensures ∙ get_or_default c.loop-host.statuses.items at _ Idle inside) ∙ ap (λ (l : List Status). awaited (status_at l at)) was in
          ap items_of w.statuses-is ∙ ap (λ (l : List Status). set l at w.await_turn.result) was
          ∙ named_here awaited awaited_again hosts i none within statuses w.await_turn.result (subst (λ (l : List Status). at < length l) was inside) now
      | else-host-len w ↦
          let past : length c.loop-host.statuses.items ≤ at = omega (arith, c.len.ensures, w.if-host-len.false) in
          ap items_of w.statuses-is ∙ was ∙ named_past awaited awaited_again hosts i none within statuses (subst (λ (l : List Status). length l ≤ at) was past)
    ]
