use Rattle.std.proofs.Common.{◌≡◌, ℕ, ◌+◌, List, Option, length, sym, ap, ◌∙◌, subst}
use Rattle.std.specs.Option.{option_or}
use Rattle.domains.specs.Ids.{host_numbers}
use Rattle.play_forecast.specs.Courses.{IsPlannedFrom, next_batch}
use Rattle.rehearse.specs.declared.stage.Stage.{Stage}
use Rattle.rehearse.specs.Stacks.{IsBehind, RehearsalView, cap_at, first_outside, top}
use Rattle.rehearse.specs.Advances.{AreFirstSteps}
use Rattle.rehearse.proofs.StackLemmas.{stage_is_behind, statuses_all}
use Rattle.rehearse.proofs.rehearsal.Rehearsal.next_stage.Goals as goal

pub from_statuses-requires-clause-hosts : goal.from_statuses-requires-clause-hosts
from_statuses-requires-clause-hosts c =
    let rehearsal : RehearsalView =
    record {
      rules = record { fleet = c.self.inside.fleet.now; mode = c.self.inside.mode; caps = c.self.inside.caps.now; percentage = c.self.inside.max_fail };
      opening = c.self.inside.opening.now;
      first = c.self.inside.first;
      above = c.self.inside.above.items;
    } in
    let steps : AreFirstSteps (length rehearsal.rules.fleet.hosts) (host_numbers c.args.failing.now) c.as_slice.result.now =
    subst (λ (n : ℕ). AreFirstSteps n (host_numbers c.args.failing.now) c.as_slice.result.now) c.hosts.ensures.count
    (subst (λ (l : List (Option ℕ)). AreFirstSteps c.hosts.result (host_numbers c.args.failing.now) l) (sym c.as_slice.ensures.value) c.in_ok-steps.ensures) in
    statuses_all rehearsal c.self.invariant c.args.failing.now c.as_slice.result.now steps c.top-below.result.now.boundary c.in_ok-statuses.statuses.items c.in_ok-statuses.ended
    (ap (λ (s : Stage). s.boundary) (c.top-below.ensures ∙ ap top (sym c.self.view_is))) c.in_ok-statuses.ensures

pub returns-clause-behind : goal.returns-clause-behind
returns-clause-behind c =
    let rehearsal : RehearsalView =
    record {
      rules = record { fleet = c.self.inside.fleet.now; mode = c.self.inside.mode; caps = c.self.inside.caps.now; percentage = c.self.inside.max_fail };
      opening = c.self.inside.opening.now;
      first = c.self.inside.first;
      above = c.self.inside.above.items;
    } in
    let steps : AreFirstSteps (length rehearsal.rules.fleet.hosts) (host_numbers c.args.failing.now) c.as_slice.result.now =
    subst (λ (n : ℕ). AreFirstSteps n (host_numbers c.args.failing.now) c.as_slice.result.now) c.hosts.ensures.count
    (subst (λ (l : List (Option ℕ)). AreFirstSteps c.hosts.result (host_numbers c.args.failing.now) l) (sym c.as_slice.ensures.value) c.in_ok-steps.ensures) in
    let stage : Stage = record { boundary = c.in_ok-boundary.boundary; end = c.or-end.result; failing = c.in_ok-from_slice.field-0 } in
    let cap_is : c.cap-cap.result ≡ cap_at rehearsal.rules.caps (length rehearsal.above + 1) =
    c.cap-cap.ensures ∙ ap (λ (n : ℕ). cap_at rehearsal.rules.caps (n + 1)) (c.advances.ensures ∙ ap (λ (r : RehearsalView). length r.above) (sym c.self.view_is)) in
    let planned : IsPlannedFrom rehearsal.rules.fleet rehearsal.rules.mode (cap_at rehearsal.rules.caps (length rehearsal.above + 1)) c.in_ok-statuses.statuses.items stage.boundary =
    subst (λ (o : Option ℕ). IsPlannedFrom rehearsal.rules.fleet rehearsal.rules.mode o c.in_ok-statuses.statuses.items stage.boundary) cap_is c.in_ok-boundary.ensures in
    subst (λ (r : RehearsalView). IsBehind r.rules (length r.above) (top r) stage) c.self.view_is
    (stage_is_behind rehearsal c.self.invariant c.args.failing.now c.as_slice.result.now steps c.top-below.result.now.boundary c.in_ok-statuses.statuses.items c.in_ok-statuses.ended stage
    (ap (λ (s : Stage). s.boundary) (c.top-below.ensures ∙ ap top (sym c.self.view_is))) c.in_ok-statuses.ensures planned
    (c.or-end.ensures ∙ ap (option_or c.in_ok-statuses.ended) c.end_without_batch.ensures) c.in_ok-from_slice.ensures.items
    (ap (λ (r : RehearsalView). (top r).end) c.self.view_is ∙ c.requires.went_on)
    (ap (λ (r : RehearsalView). first_outside (next_batch (top r).boundary.answer) c.args.failing.now) c.self.view_is ∙ c.requires.in_batch))
