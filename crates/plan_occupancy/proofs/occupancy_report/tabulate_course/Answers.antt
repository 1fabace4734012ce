use Rattle.std.proofs.Common.{List, length, ap, ◌∙◌}
use Rattle.play_forecast.specs.declared.boundary.Boundary.{Boundary}
use Rattle.plan_occupancy.specs.Surveys.{start_of}
use Rattle.plan_occupancy.proofs.SurveyLemmas.{start_long}
use Rattle.plan_occupancy.proofs.occupancy_report.tabulate_course.Goals as goal

pub new-requires : goal.new-requires
new-requires c =
    let boundaries = c.args.course.now.boundaries.items in
    let start = c.start_of.ensures ∙ ap (λ (l : List Boundary). start_of l) c.as_slice-boundaries.ensures.value in
    record { all = ap length start ∙ start_long (length c.args.fleet.now.hosts) boundaries c.requires.some c.requires.all }
