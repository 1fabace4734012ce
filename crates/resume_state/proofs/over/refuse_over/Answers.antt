use Rattle.std.proofs.Common.{ap, ◌∙◌}
use Rattle.fleet_states.specs.Statuses.{down_count}
use Rattle.resume_state.proofs.OverLemmas.{counted_at, limit_over}
use Rattle.resume_state.proofs.over.refuse_over.Goals as goal

pub returns-clause-err : goal.returns-clause-err
returns-clause-err c =
    let fleet = c.args.fleet.now in
    let statuses = c.args.statuses.now in
    let group = c.in-Some.group.index in
    let first = c.in-Some.ensures.some in
    record {
      group = group;
      over = first;
      named = c.in_ok-name.ensures.ok ∙ c.group_name.ensures;
      counted = c.count_down.ensures ∙ ap (down_count statuses) c.members.ensures.members ∙ counted_at fleet statuses group first.within;
      limited = limit_over fleet statuses group first.within first.over c.limit.result c.limit.ensures c.unwrap_or.result c.unwrap_or.ensures;
    }
