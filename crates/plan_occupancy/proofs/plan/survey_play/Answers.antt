use Rattle.std.proofs.Common.{length, ap, ◌∙◌}
use Rattle.plan_occupancy.proofs.SurveyLemmas.{first_long}
use Rattle.plan_occupancy.proofs.plan.survey_play.Goals as goal

pub survey_plan-requires : goal.survey_plan-requires
survey_plan-requires c =
    record { all = ap length (c.as_slice.ensures.value ∙ c.in_ok-statuses.ensures) ∙ first_long c.args.fleet.now c.args.play.now }
