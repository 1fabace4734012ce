use Rattle.std.proofs.Common.{ℕ, List, ap, ◌∙◌, arith}
use Rattle.std.proofs.lemmas.List.{with_items_is}
use Rattle.group_tree.specs.declared.ids.HostId.{HostId}
use Rattle.domains.specs.Ids.{host_numbers}
use Rattle.domains.specs.Patterns.{named_hosts}
use Rattle.text_syntax.specs.Patterns.{parts_of}
use Rattle.fleet_states.specs.Starts.{start_statuses}
use Rattle.batch_plan.specs.Holding.{set_aside}
use Rattle.play_forecast.specs.PlayPlans.{aside_at_start}
use Rattle.plan_occupancy.proofs.plan.list_statuses.Goals as goal

pub returns : goal.returns
returns c =
    let fleet = c.args.fleet.now in
    let play = c.args.play.now in
    let target = c.in-Ok.ensures.hosts ∙ ap (λ (l : List ℕ). named_hosts fleet (parts_of l)) c.pattern.ensures in
    let begun = c.in_ok-statuses.ensures.statuses ∙ ap (λ (l : List HostId). start_statuses fleet (host_numbers l)) c.as_slice.ensures.value ∙ ap (start_statuses fleet) target in
    with_items_is c.in_ok-statuses.statuses c.set_aside.new.statuses (omega arith) ∙ c.set_aside.ensures ∙ ap (λ (l : List ℕ). set_aside l c.as_mut_slice.result.now) c.requires.held
    ∙ ap (set_aside (aside_at_start fleet play)) (c.as_mut_slice.ensures.value ∙ begun)
