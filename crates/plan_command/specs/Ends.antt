-- How planning ends.
use Rattle.std.specs.Prelude.{ℕ, List, [], ◌∷◌}
use Rattle.batch_plan.specs.declared.answers.Answer.{Answer}
use Rattle.batch_plan.specs.declared.answers.Answer.TheVariants.{Planned, Blocked}
use Rattle.plan_command.specs.declared.end.End.{End}
use Rattle.plan_command.specs.declared.end.End.TheVariants as ends

-- all waiting hosts have a batch, or some are set aside, or a group blocks every plan
abbrev pub end_of : Answer → List ℕ → End
end_of (Planned plan) [] = ends.Planned
end_of (Planned plan) (host ∷ hosts) = ends.Blocked
end_of (Blocked group waiting) held = ends.Blocked
