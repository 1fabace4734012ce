use Rattle.std.proofs.Common.{◌≡◌, List, true, length, sym, ap, ◌∙◌, subst}
use Rattle.fleet_index.specs.NumberLists.{are_below}
use Rattle.domains.specs.Ids.{host_numbers}
use Rattle.play_forecast.specs.Courses.{next_batch}
use Rattle.rehearse.specs.declared.stage.Stage.{Stage}
use Rattle.rehearse.specs.Kept.{IsKept}
use Rattle.rehearse.specs.Stacks.{IsBehind, RehearsalView, pushed, top}
use Rattle.rehearse.proofs.BatchLemmas.{all_below}
use Rattle.rehearse.proofs.StackLemmas.{kept-push, kept_stands, stands_within}
use Rattle.rehearse.proofs.rehearsal.Rehearsal.advance.Goals as goal

pub first_outside-requires : goal.first_outside-requires
first_outside-requires c =
    let kept : IsKept c.args.self.now = subst IsKept c.self.view_is c.self.invariant in
    let below : are_below (length c.args.self.now.rules.fleet.hosts) (next_batch (top c.args.self.now).boundary.answer) ≡ true =
    all_below (length c.args.self.now.rules.fleet.hosts) (next_batch (top c.args.self.now).boundary.answer) (stands_within c.args.self.now.rules (top c.args.self.now) (kept_stands c.args.self.now kept)) in
    ap (λ n. are_below n (host_numbers c.next_batch-batch.result.now)) (c.hosts.ensures.count ∙ ap (λ (r : RehearsalView). length r.rules.fleet.hosts) c.self.view_is)
    ∙ ap (are_below (length c.args.self.now.rules.fleet.hosts)) c.next_batch-batch.ensures ∙ below

pub invariant_of-self-2 : goal.invariant_of-self-2
invariant_of-self-2 c =
    let rehearsal : RehearsalView =
    record {
      rules = record { fleet = c.self.inside.fleet.now; mode = c.self.inside.mode; caps = c.self.inside.caps.now; percentage = c.self.inside.max_fail };
      opening = c.self.inside.opening.now;
      first = c.self.inside.first;
      above = c.self.inside.above.items;
    } in
    let behind : IsBehind rehearsal.rules (length rehearsal.above) (top rehearsal) c.in_ok-stage.stage =
    subst (λ (r : RehearsalView). IsBehind r.rules (length r.above) (top r) c.in_ok-stage.stage) (sym c.self.view_is) c.in_ok-stage.ensures.behind in
    subst (λ (l : List Stage). IsKept (record rehearsal { above = l })) (sym c.in_ok-push.ensures.items) (kept-push rehearsal c.in_ok-stage.stage c.self.invariant behind)

pub returns-clause-ok : goal.returns-clause-ok
returns-clause-ok c =
    let rehearsal : RehearsalView =
    record {
      rules = record { fleet = c.self.inside.fleet.now; mode = c.self.inside.mode; caps = c.self.inside.caps.now; percentage = c.self.inside.max_fail };
      opening = c.self.inside.opening.now;
      first = c.self.inside.first;
      above = c.self.inside.above.items;
    } in
    record {
      stage = c.in_ok-stage.stage;
      named_are = c.in_ok-stage.ensures.named;
      behind = c.in_ok-stage.ensures.behind;
      grown = ap (λ (l : List Stage). record rehearsal { above = l }) c.in_ok-push.ensures.items ∙ ap (pushed c.in_ok-stage.stage) c.self.view_is;
    }
