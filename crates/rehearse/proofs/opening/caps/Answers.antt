use Rattle.std.proofs.Common.{◌≡◌, ℕ, List, length, sym, ap, ◌∙◌, subst, arith}
use Rattle.std.specs.Prelude.{IfOk}
use Rattle.group_tree.specs.declared.ids.HostId.{HostId}
use Rattle.fleet_states.proofs.HostLemmas.{length-host_numbers}
use Rattle.play_forecast.specs.PlayPlans.{targets}
use Rattle.rehearse.specs.Plays.{caps_of}
use Rattle.rehearse.proofs.TargetLemmas.{few_targets}
use Rattle.rehearse.proofs.opening.caps.Goals as goal

pub count-requires : goal.count-requires
count-requires c =
    let lent : length c.as_slice.result.now ≡ length c.in_ok-hosts.hosts.items = ap length c.as_slice.ensures.value in
    omega (arith, lent, few_targets c.args.fleet.now c.args.play.now, ap length c.in_ok-hosts.ensures, length-host_numbers c.in_ok-hosts.hosts.items)

pub returns : goal.returns
returns c =
    let fleet = c.args.fleet.now in
    let play = c.args.play.now in
    let hosts : List HostId = c.in_ok-hosts.hosts.items in
    let many : c.count.result ≡ length (targets fleet play) = c.count.ensures ∙ ap length c.as_slice.ensures.value ∙ sym (length-host_numbers hosts) ∙ ap length c.in_ok-hosts.ensures in
    subst (λ (n : ℕ). IfOk c.list_caps.result (λ caps. caps.items ≡ caps_of play.sizes.items n)) many c.list_caps.ensures
