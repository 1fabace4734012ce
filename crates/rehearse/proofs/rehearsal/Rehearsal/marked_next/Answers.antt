use Rattle.std.proofs.Common.{◌≡◌, true, length, ap, ◌∙◌, subst}
use Rattle.fleet_index.specs.NumberLists.{are_below}
use Rattle.domains.specs.Ids.{host_numbers}
use Rattle.play_forecast.specs.Courses.{next_batch}
use Rattle.rehearse.specs.Kept.{IsKept}
use Rattle.rehearse.specs.Stacks.{RehearsalView, top}
use Rattle.rehearse.proofs.BatchLemmas.{all_below}
use Rattle.rehearse.proofs.StackLemmas.{kept_stands, stands_within}
use Rattle.rehearse.proofs.rehearsal.Rehearsal.marked_next.Goals as goal

pub those_in-requires : goal.those_in-requires
those_in-requires c =
    let kept : IsKept c.args.self.now = subst IsKept c.self.view_is c.self.invariant in
    let below : are_below (length c.args.self.now.rules.fleet.hosts) (next_batch (top c.args.self.now).boundary.answer) ≡ true =
    all_below (length c.args.self.now.rules.fleet.hosts) (next_batch (top c.args.self.now).boundary.answer) (stands_within c.args.self.now.rules (top c.args.self.now) (kept_stands c.args.self.now kept)) in
    ap (λ n. are_below n (host_numbers c.next_batch.result.now)) (c.hosts.ensures.count ∙ ap (λ (r : RehearsalView). length r.rules.fleet.hosts) c.self.view_is)
    ∙ ap (are_below (length c.args.self.now.rules.fleet.hosts)) c.next_batch.ensures ∙ below
