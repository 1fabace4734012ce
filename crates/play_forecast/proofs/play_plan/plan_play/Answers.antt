use Rattle.std.proofs.Common.{◌≡◌, ℕ, Option, List, length, sym, ap, ◌∙◌, subst, arith}
use Rattle.std.specs.List.{list_any}
use Rattle.std.proofs.lemmas.List.{with_items_is}
use Rattle.group_tree.specs.declared.ids.HostId.{HostId}
use Rattle.text_syntax.specs.Patterns.{parts_of}
use Rattle.domains.specs.Ids.{host_numbers}
use Rattle.domains.specs.Patterns.{is_named_by, named_hosts}
use Rattle.batch_plan.proofs.WhereLemmas.{length-where}
use Rattle.fleet_states.specs.declared.status.Status.{Status}
use Rattle.fleet_states.specs.Starts.{start_statuses}
use Rattle.fleet_states.proofs.HostLemmas.{length-host_numbers}
use Rattle.play_model.specs.declared.on_blocked.OnBlocked.{OnBlocked}
use Rattle.play_model.specs.Sizes.{cap}
use Rattle.batch_plan.specs.Answers.{IsBest, IsDealtAnswer}
use Rattle.batch_plan.specs.Holding.{set_aside}
use Rattle.play_forecast.specs.PlayPlans.{aside_at_start, aside_by, first_cap, first_statuses, targets}
use Rattle.play_forecast.proofs.play_plan.plan_play.Goals as goal

pub count-requires : goal.count-requires
count-requires c =
    let fleet = c.args.fleet.now in
    let hosts = c.in_ok-target.target.items in
    let lent : length c.as_slice.result.now ≡ length hosts = ap length c.as_slice.ensures.value in
    let named : length (host_numbers hosts) ≡ length (named_hosts fleet (parts_of c.pattern.result.now)) = ap length c.in_ok-target.ensures.hosts in
    let few = length-where (λ host. list_any (is_named_by fleet host) (parts_of c.pattern.result.now)) (length fleet.hosts) in
    omega (arith, lent, named, few, length-host_numbers hosts)

pub returns-clause-ok : goal.returns-clause-ok
returns-clause-ok c =
    let fleet = c.args.fleet.now in
    let play = c.args.play.now in
    let hosts = c.in_ok-target.target.items in
    let target : host_numbers hosts ≡ targets fleet play = c.in_ok-target.ensures.hosts ∙ ap (λ (l : List ℕ). named_hosts fleet (parts_of l)) c.pattern.ensures in
    let begun : c.in_ok-statuses.statuses.items ≡ start_statuses fleet (targets fleet play) =
    c.in_ok-statuses.ensures.statuses ∙ ap (λ (l : List HostId). start_statuses fleet (host_numbers l)) c.as_slice-2.ensures.value ∙ ap (start_statuses fleet) target in
    let mode = ap (λ (b : OnBlocked). aside_by b fleet c.as_slice-3.result.now) c.on_blocked.ensures in
    let held : host_numbers c.in_ok-held.held.items ≡ aside_at_start fleet play = c.in_ok-held.ensures ∙ mode ∙ ap (aside_by play.on_blocked fleet) (c.as_slice-3.ensures.value ∙ begun) in
    let written : c.as_slice-5.result.now ≡ c.set_aside.new.statuses = c.as_slice-5.ensures.value ∙ with_items_is c.in_ok-statuses.statuses c.set_aside.new.statuses (omega arith) in
    let aside = c.set_aside.ensures ∙ ap (λ (l : List HostId). set_aside (host_numbers l) c.as_mut_slice.result.now) c.as_slice-4.ensures.value in
    let both = ap (λ (l : List ℕ). set_aside l c.as_mut_slice.result.now) held ∙ ap (set_aside (aside_at_start fleet play)) (c.as_mut_slice.ensures.value ∙ begun) in
    let statuses : c.as_slice-5.result.now ≡ first_statuses fleet play = written ∙ aside ∙ both in
    let many : c.count.result ≡ length (targets fleet play) = c.count.ensures ∙ ap length c.as_slice.ensures.value ∙ sym (length-host_numbers hosts) ∙ ap length target in
    let size : c.cap-cap.result ≡ first_cap fleet play = c.cap-cap.ensures.number ∙ ap (λ (n : ℕ). cap play.sizes.items n 0) many in
    let answer = c.in_ok-answer.answer in
    record {
      held_are = held;
      best = subst (λ (o : Option ℕ). IsBest fleet (first_statuses fleet play) o answer) size (subst (λ (l : List Status). IsBest fleet l c.cap-cap.result answer) statuses c.in_ok-answer.ensures.best);
      dealt = subst (λ (o : Option ℕ). IsDealtAnswer fleet (first_statuses fleet play) o answer) size (subst (λ (l : List Status). IsDealtAnswer fleet l c.cap-cap.result answer) statuses c.in_ok-answer.ensures.dealt);
    }
