use Rattle.std.proofs.Common.{◌≡◌, ℕ, List, length, sym, ap, ◌∙◌, arith}
use Rattle.std.specs.List.{list_any}
use Rattle.std.proofs.lemmas.List.{with_items_is}
use Rattle.group_tree.specs.declared.ids.HostId.{HostId}
use Rattle.text_syntax.specs.Patterns.{parts_of}
use Rattle.domains.specs.Ids.{host_numbers}
use Rattle.domains.specs.Patterns.{is_named_by, named_hosts}
use Rattle.batch_plan.proofs.WhereLemmas.{length-where}
use Rattle.batch_plan.specs.Holding.{set_aside}
use Rattle.fleet_states.specs.Starts.{start_statuses}
use Rattle.fleet_states.proofs.HostLemmas.{length-host_numbers}
use Rattle.play_model.specs.Sizes.{cap}
use Rattle.play_forecast.specs.PlayPlans.{aside_at_start, targets}
use Rattle.plan_check.proofs.opening.open_play.Goals as goal

pub count-requires : goal.count-requires
count-requires c =
    let fleet = c.args.fleet.now in
    let hosts = c.in-Ok-target.target.items in
    let lent : length c.as_slice.result.now ≡ length hosts = ap length c.as_slice.ensures.value in
    let named : length (host_numbers hosts) ≡ length (named_hosts fleet (parts_of c.pattern.result.now)) = ap length c.in-Ok-target.ensures.hosts in
    let few = length-where (λ host. list_any (is_named_by fleet host) (parts_of c.pattern.result.now)) (length fleet.hosts) in
    omega (arith, lent, named, few, length-host_numbers hosts)

pub returns : goal.returns
returns c =
    let fleet = c.args.fleet.now in
    let play = c.args.play.now in
    let hosts = c.in-Ok-target.target.items in
    let target : host_numbers hosts ≡ targets fleet play = c.in-Ok-target.ensures.hosts ∙ ap (λ (l : List ℕ). named_hosts fleet (parts_of l)) c.pattern.ensures in
    let begun : c.in_ok-statuses.statuses.items ≡ start_statuses fleet (targets fleet play) =
    c.in_ok-statuses.ensures.statuses ∙ ap (λ (l : List HostId). start_statuses fleet (host_numbers l)) c.as_slice-2.ensures.value ∙ ap (start_statuses fleet) target in
    let held : host_numbers c.as_slice-3.result.now ≡ aside_at_start fleet play = ap host_numbers c.as_slice-3.ensures.value ∙ c.in-Ok.ensures.ok.held_are in
    let many : c.count.result ≡ length (targets fleet play) = c.count.ensures ∙ ap length c.as_slice.ensures.value ∙ sym (length-host_numbers hosts) ∙ ap length target in
    record {
      held = host_numbers c.in-Ok.planned.held.items;
      plan = c.in-Ok.ensures.ok;
      statuses = with_items_is c.in_ok-statuses.statuses c.set_aside.new.statuses (omega arith) ∙ c.set_aside.ensures
          ∙ ap (λ (l : List ℕ). set_aside l c.as_mut_slice.result.now) held ∙ ap (set_aside (aside_at_start fleet play)) (c.as_mut_slice.ensures.value ∙ begun);
      cap = c.cap-cap.ensures.number ∙ ap (λ (n : ℕ). cap play.sizes.items n 0) many;
    }
