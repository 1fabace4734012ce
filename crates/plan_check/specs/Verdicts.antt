-- What is told of a plan, and how the check of it ends.
use Rattle.std.specs.Prelude.{ℕ, nat_eq, Option, Some, None, List, length, if◌then◌else◌}
use Rattle.group_tree.specs.Names.{Name}
use Rattle.domains.specs.FleetViews.{FleetView}
use Rattle.fleet_states.specs.declared.status.Status.{Status}
use Rattle.batch_plan.specs.declared.answers.Answer.{Answer}
use Rattle.batch_plan.specs.declared.answers.Answer.TheVariants.{Planned, Blocked}
use Rattle.plan_check.specs.Names.{Nobody, batches_named, nobody_in}
use Rattle.plan_check.specs.PlanErrors.{first_plan_error}
use Rattle.plan_check.specs.declared.wrong.Wrong.{Wrong}
use Rattle.plan_check.specs.declared.end.CheckEnd.{CheckEnd}
use Rattle.plan_check.specs.declared.end.CheckEnd.TheVariants as ends

-- the group of which so many hosts wait blocks every plan; a name is no host's; this is wrong; or it is a plan of so many batches, and the least has so many
pub data Verdict : Type 0 where
  blocked : ℕ → ℕ → Verdict
  nobody : Nobody → Verdict
  wrong : Wrong → Verdict
  valid : ℕ → ℕ → Verdict

abbrev pub verdict_by : ℕ → ℕ → Option Wrong → Verdict
verdict_by count least (Some found) = wrong found
verdict_by count least None = valid count least

-- what is told of batches of names where there are plans, the least of which has so many batches
abbrev pub judged : FleetView → List Status → Option ℕ → ℕ → List (List Name) → Option Nobody → Verdict
judged fleet statuses cap least batches (Some name) = nobody name
judged fleet statuses cap least batches None = verdict_by (length batches) least (first_plan_error fleet statuses cap (batches_named fleet batches))

-- what is told of batches of names, where the planner answers so
abbrev pub verdict_on : FleetView → List Status → Option ℕ → Answer → List (List Name) → Verdict
verdict_on fleet statuses cap (Blocked group waiting) batches = blocked group.index waiting
verdict_on fleet statuses cap (Planned plan) batches = judged fleet statuses cap (length plan.batches) batches (nobody_in fleet batches)

abbrev pub end_of : Verdict → CheckEnd
end_of (blocked group waiting) = ends.Blocked
end_of (nobody name) = ends.Wrong
end_of (wrong found) = ends.Wrong
end_of (valid count least) = if nat_eq count least then ends.Least else ends.Longer
