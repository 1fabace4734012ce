use Rattle.std.proofs.Common.{◌≡◌, arith, ℕ, ◌<◌, false, Option, List, ap, sym, ◌∙◌, subst, length}
use Rattle.domains.specs.Ids.{host_numbers}
use Rattle.fleet_states.proofs.HostLemmas.{length-host_numbers}
use Rattle.group_tree.specs.declared.ids.HostId.{HostId}
use Rattle.batch_plan.specs.Deals.{dealt}
use Rattle.fleet_states.specs.declared.status.Status.{Status}
use Rattle.batch_plan.specs.Places.{AreCountsOf}
use Rattle.batch_plan.specs.Needs.{is_blocked, need_at}
use Rattle.batch_plan.specs.declared.needs.Need.{Need}
use Rattle.batch_plan.proofs.AnswerLemmas.{blocked_answer, planned_answer}
use Rattle.batch_plan.proofs.planner.plan_over.Goals as goal

pub returns-in-Some-clause-best : goal.returns-in-Some-clause-best
returns-in-Some-clause-best g c statuses are =
    let needs = c.as_slice.ensures.value ∙ c.in_ok-needs.ensures.needs in
    let found = c.in-Some.ensures in
    blocked_answer statuses c.args.domains.now are c.as_slice.result.now needs c.args.cap c.in-Some.group.index c.in-Some.waiting found.0 found.1 found.2 found.3

pub returns-in-Some-clause-dealt : goal.returns-in-Some-clause-dealt
returns-in-Some-clause-dealt g c = returns-in-Some-clause-best g c

pub returns : goal.returns
returns g c =
    let needs = c.as_slice-2.ensures.value ∙ c.in_ok-needs.ensures.needs in
    let hosts : List ℕ = host_numbers c.in_ok-hosts.hosts.items in
    let best = c.name_bound-best.result in
    let many : c.len.result ≡ length hosts = omega (arith, c.len.ensures, length-host_numbers c.in_ok-hosts.hosts.items) in
    let same : c.as_slice.result.now ≡ c.as_slice-2.result.now = c.as_slice.ensures.value ∙ sym c.as_slice-2.ensures.value in
    let Free : List (Option Need) → Type 0 = λ l. (group : ℕ) → group < length l → is_blocked (need_at l group) ≡ false in
    let free = subst Free same c.in_default.ensures in
    let dealt_are = c.in_ok-batches.ensures ∙ ap (λ (l : List HostId). dealt (host_numbers l) best.count) c.as_slice-3.ensures.value in
    let both = λ (statuses : List Status) (are : AreCountsOf statuses c.args.domains.now). planned_answer statuses c.args.domains.now are c.as_slice-2.result.now needs
    c.in_ok-needs.ensures.sound c.args.cap c.requires hosts c.in_ok-hosts.ensures c.len.result many best.count best.bound free c.name_bound-best.ensures
    c.in_ok-batches.batches dealt_are in
    record {
      best = λ statuses are. (both statuses are).0;
      dealt = λ statuses are. (both statuses are).1;
    }
