use Rattle.domains.specs.Ids.{host_numbers}
use Rattle.lint_command.proofs.batches.smallest_in_plan.Goals as goal

pub returns-in-Ok : goal.returns-in-Ok
returns-in-Ok c = record {
  answer = c.in-Ok.planned.answer;
  held = host_numbers c.in-Ok.planned.held.items;
  plan = c.in-Ok.ensures.ok;
  size_is = c.smallest_batch.ensures;
}
