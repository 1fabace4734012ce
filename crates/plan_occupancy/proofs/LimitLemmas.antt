-- In no column is a group over its limit.
use Rattle.std.proofs.Common.{ℕ, zero, suc, ◌≤◌, Option, List, [], ◌∷◌, map, take, length, get_or, All, arith}
use Rattle.std.proofs.lemmas.List.Elements.{All-take}
use Rattle.domains.specs.FleetViews.{FleetView}
use Rattle.fleet_states.specs.declared.status.Status.{Status}
use Rattle.fleet_states.specs.Groups.{groups_of}
use Rattle.fleet_states.specs.Starts.{start_statuses}
use Rattle.batch_plan.specs.Answers.{IsBest}
use Rattle.batch_plan.specs.declared.answers.Answer.{Answer}
use Rattle.batch_plan.specs.declared.answers.Answer.TheVariants.{Planned, Blocked}
use Rattle.play_forecast.specs.Courses.{batches_of}
use Rattle.play_forecast.specs.Files.{Course}
use Rattle.play_forecast.specs.PlayPlans.{aside_at_start, first_cap, first_statuses, targets}
use Rattle.play_forecast.specs.declared.boundary.Boundary.{Boundary}
use Rattle.rehearse.specs.CourseTexts.{batches_opened}
use Rattle.occupancy_table.specs.Columns.{AreWithinLimits, now, planned}
use Rattle.occupancy_table.proofs.CellLemmas.{plans_are_within_limits, what_fits_is_within_limits}
use Rattle.plan_occupancy.specs.Laws.{CoursesStayWithin, PlansStayWithin}
use Rattle.plan_occupancy.specs.Surveys.{columns_of, course_outlook, opened, start_of}
use Rattle.plan_occupancy.proofs.WalkLemmas.{IsGood, IsGoodAt, IsGoodCourse, good_aside, good_courses, good_start, nobody_fits}

now_within : (fleet : FleetView) (statuses : List Status) → IsGood fleet statuses → AreWithinLimits fleet (now statuses ∷ [])
now_within fleet statuses good = what_fits_is_within_limits fleet (now statuses) good.safe (nobody_fits (groups_of fleet) statuses)

answer_within : (fleet : FleetView) (statuses : List Status) (cap : Option ℕ) (answer : Answer) → IsGood fleet statuses → IsBest fleet statuses cap answer
    → AreWithinLimits fleet (now statuses ∷ planned statuses (batches_of answer))
answer_within fleet statuses cap (Planned plan) good best = plans_are_within_limits fleet statuses cap plan.batches good.safe best.plan
answer_within fleet statuses cap (Blocked group waiting) good best = now_within fleet statuses good

pub plans_stay_within : PlansStayWithin
plans_stay_within fleet play answer held sound plan =
    answer_within fleet (first_statuses fleet play) (first_cap fleet play) answer
    (good_aside fleet (aside_at_start fleet play) (start_statuses fleet (targets fleet play)) (good_start fleet sound (targets fleet play))) plan.best

opened_within : (fleet : FleetView) (boundaries : List Boundary) → All (IsGoodAt fleet) boundaries → AreWithinLimits fleet (map opened boundaries)
opened_within fleet [] all k d l = absurd (omega (arith, l))
opened_within fleet (boundary ∷ rest) all zero d l =
    let here = all 0 boundary (omega arith) in
    what_fits_is_within_limits fleet (opened boundary) here.good.safe here.fits 0 d (omega arith)
opened_within fleet (boundary ∷ rest) all (suc k) d l = opened_within fleet rest (λ k d l. all (suc k) d (omega (arith, l))) k d (omega (arith, l))

start_good : (fleet : FleetView) (boundaries : List Boundary) → 1 ≤ length boundaries → All (IsGoodAt fleet) boundaries → IsGood fleet (start_of boundaries)
start_good fleet [] some all = absurd (omega (arith, some))
start_good fleet (boundary ∷ rest) some all = (all 0 boundary (omega arith)).good

course_within : (fleet : FleetView) (course : Course) → IsGoodCourse fleet course → AreWithinLimits fleet (columns_of (course_outlook course))
course_within fleet course good zero d l = now_within fleet (start_of course.boundaries) (start_good fleet course.boundaries good.some good.all) 0 d (omega arith)
course_within fleet course good (suc k) d l =
    opened_within fleet (take (batches_opened course) course.boundaries) (All-take (IsGoodAt fleet) (batches_opened course) course.boundaries good.all) k d (omega (arith, l))

pub courses_stay_within : CoursesStayWithin
courses_stay_within fleet fails plays courses sound are k d l =
    course_within fleet (get_or courses k d) (good_courses fleet fails sound plays courses are k d l)
