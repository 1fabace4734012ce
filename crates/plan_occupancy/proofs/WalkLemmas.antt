-- At each boundary of a course every host has a status, no group is over its limit, and the batch that is opened has room.
use Rattle.std.proofs.Common.{◌≡◌, ℕ, zero, suc, ◌+◌, ◌≤◌, ◌<◌, Bool, true, false, Option, None, Some, List, [], ◌∷◌, cond, map, length, get_or, All, sym, ap, ◌∙◌, refl, subst, arith, inl, inr, ◌⊎◌}
use Rattle.std.proofs.lemmas.Bool.{cases_lt}
use Rattle.std.proofs.lemmas.List.FromFn.{get_or-map-range_with_len}
use Rattle.fleet_index.specs.NumberLists.{bit, has_number, list_at}
use Rattle.domains.specs.FleetViews.{FleetView, IsSound}
use Rattle.fleet_states.specs.declared.status.Status.{Status}
use Rattle.fleet_states.specs.declared.status.Status.TheVariants.{Idle, Waiting, Running, Updated, Failed, Halted, Off, Held}
use Rattle.fleet_states.specs.Batches.{Fails, status_after, statuses_after}
use Rattle.fleet_states.specs.Groups.{FleetGroup, Fits, IsSafe, groups_of}
use Rattle.fleet_states.specs.Starts.{start_statuses}
use Rattle.fleet_states.specs.Statuses.{are_ready, changed, down_count, is_down, status_at}
use Rattle.fleet_states.proofs.CountLemmas.{count_none}
use Rattle.fleet_states.proofs.SafetyLemmas.{exceeds_less, fits_none, safe_opened}
use Rattle.fleet_states.proofs.StartLemmas.{length-start_statuses, starts_safe}
use Rattle.fleet_states.proofs.StatusLemmas.{length-changed, length-given, status_at-changed, status_at-given, status_at-given_past, status_at-past}
use Rattle.batch_plan.specs.Answers.{IsBest}
use Rattle.batch_plan.specs.Beginnings.{restart_status, restart_statuses}
use Rattle.batch_plan.specs.Holding.{set_aside}
use Rattle.batch_plan.specs.Plans.{IsPlan}
use Rattle.batch_plan.specs.declared.answers.Answer.{Answer}
use Rattle.batch_plan.specs.declared.answers.Answer.TheVariants.{Planned, Blocked}
use Rattle.batch_plan.proofs.BeginningLemmas.{length-restart_statuses}
use Rattle.batch_plan.proofs.PlanLaws.{first_may_be_opened}
use Rattle.play_model.specs.declared.play.Play.{Play}
use Rattle.play_forecast.specs.Courses.{Continues, Goes, IsBoundary, Setting, end_behind, end_here, halt_of, next_batch, statuses_behind}
use Rattle.play_forecast.specs.Files.{AreLaterCourses, Course, GoesOn, last_statuses}
use Rattle.play_forecast.specs.PlayPlans.{aside_by, targets}
use Rattle.play_forecast.specs.declared.boundary.Boundary.{Boundary}
use Rattle.play_forecast.specs.declared.end.End.{End}
use Rattle.play_forecast.specs.declared.end.End.TheVariants as ending
use Rattle.rehearse.specs.CourseSteps.{course_of}
use Rattle.rehearse.specs.CourseTexts.{AreCoursesBy, play_by}
use Rattle.rehearse.specs.declared.course.PlayCourse.{PlayCourse}
use Rattle.plan_occupancy.specs.Inside.{IsWalked}
use Rattle.occupancy_table.proofs.CellLemmas.{AreNoMoreDown, changed_up, fewer_down, not_more}

pub all_first : {X : Type 0} (P : X → Type 0) (x : X) (xs : List X) → P x → All P xs → All P (x ∷ xs)
all_first P x xs here rest zero d l = here
all_first P x xs here rest (suc k) d l = rest k d (omega (arith, l))

all_none : {X : Type 0} (P : X → Type 0) (xs : List X) → xs ≡ [] → All P xs
all_none P xs none k d l = absurd (let empty : length xs ≡ 0 = ap length none in omega (arith, l, empty))

-- what holds of what follows, where anything does
goes_or_stops : (P : Boundary → Type 0) (rest : List Boundary) (end : Option End) {C : Type 0} → (C → All P rest) → (here : Option End) → Goes here rest end C → All P rest
goes_or_stops P rest end goes_on (Some here) stops = all_none P rest stops.0
goes_or_stops P rest end goes_on None goes = goes_on goes

goes_on_or_stops : (P : Course → Type 0) (end : End) (rest : List Course) {C : Type 0} → (C → All P rest) → GoesOn end rest C → All P rest
goes_on_or_stops P ending.Finished rest goes_on goes = goes_on goes
goes_on_or_stops P ending.Held rest goes_on stops = all_none P rest stops
goes_on_or_stops P (ending.Blocked group) rest goes_on stops = all_none P rest stops
goes_on_or_stops P (ending.TooManyFailed step failed size) rest goes_on stops = all_none P rest stops
goes_on_or_stops P ending.AllFailed rest goes_on stops = all_none P rest stops

-- a status a host, and no group over its limit
pub record IsGood (fleet : FleetView) (statuses : List Status) : Type 0 where
  pub long : length statuses ≡ length fleet.hosts
  pub safe : IsSafe (groups_of fleet) statuses

-- the same of a boundary, whose batch has room
pub record IsGoodAt (fleet : FleetView) (boundary : Boundary) : Type 0 where
  pub good : IsGood fleet boundary.statuses.items
  pub fits : Fits (groups_of fleet) boundary.statuses.items (next_batch boundary.answer)

good_less : (fleet : FleetView) (statuses others : List Status) → AreNoMoreDown statuses others → IsGood fleet others → IsGood fleet statuses
good_less fleet statuses others less good = record {
  long = less.long ∙ good.long;
  safe = λ k d l. exceeds_less (get_or (groups_of fleet) k d).limit (down_count others (get_or (groups_of fleet) k d).members) (down_count statuses (get_or (groups_of fleet) k d).members)
      (good.safe k d l) (fewer_down statuses others (get_or (groups_of fleet) k d).members less);
}

-- who is set aside isn't down
pub good_aside : (fleet : FleetView) (hosts : List ℕ) (statuses : List Status) → IsGood fleet statuses → IsGood fleet (set_aside hosts statuses)
good_aside fleet hosts statuses good =
    good_less fleet (set_aside hosts statuses) statuses (changed_up Held hosts statuses statuses (not_more statuses) refl) good

pub good_start : (fleet : FleetView) → IsSound fleet → (target : List ℕ) → IsGood fleet (start_statuses fleet target)
good_start fleet sound target = record { long = length-start_statuses fleet target; safe = starts_safe fleet sound target }

-- nobody has room everywhere
pub nobody_fits : (groups : List FleetGroup) (statuses : List Status) → Fits groups statuses []
nobody_fits groups statuses k d l = fits_none statuses [] (get_or groups k d) (count_none (λ host. has_number host []) (λ host. refl) (get_or groups k d).members)

first_fits : (groups : List FleetGroup) (statuses : List Status) (cap : Option ℕ) (batches : List (List ℕ)) → IsPlan groups statuses cap batches → Fits groups statuses (list_at batches 0)
first_fits groups statuses cap [] plan = nobody_fits groups statuses
first_fits groups statuses cap (batch ∷ rest) plan = (first_may_be_opened groups statuses cap batch rest plan).fits

pub next_fits : (fleet : FleetView) (statuses : List Status) (cap : Option ℕ) (answer : Answer) → IsBest fleet statuses cap answer → Fits (groups_of fleet) statuses (next_batch answer)
next_fits fleet statuses cap (Planned plan) best = first_fits (groups_of fleet) statuses cap plan.batches best.plan
next_fits fleet statuses cap (Blocked group waiting) best = nobody_fits (groups_of fleet) statuses

first_ready : (groups : List FleetGroup) (statuses : List Status) (cap : Option ℕ) (batches : List (List ℕ)) → IsPlan groups statuses cap batches → are_ready statuses (list_at batches 0) ≡ true
first_ready groups statuses cap [] plan = refl
first_ready groups statuses cap (batch ∷ rest) plan = (first_may_be_opened groups statuses cap batch rest plan).ready

next_ready : (fleet : FleetView) (statuses : List Status) (cap : Option ℕ) (answer : Answer) → IsBest fleet statuses cap answer → are_ready statuses (next_batch answer) ≡ true
next_ready fleet statuses cap (Planned plan) best = first_ready (groups_of fleet) statuses cap plan.batches best.plan
next_ready fleet statuses cap (Blocked group waiting) best = refl

-- behind a batch at most those are down who were while it ran
module _ (halt : Option ℕ) (fails : Fails) (batch : List ℕ) (statuses : List Status) where
  one : (b : Bool) (after was : Status) → bit (is_down (cond b after was)) ≤ bit (is_down (cond b Running was))
  one true after was = most (is_down after)
    where
      most : (d : Bool) → bit d ≤ 1
      most true = omega arith
      most false = omega arith
  one false after was = omega arith

  pub behind_work : AreNoMoreDown (statuses_after halt fails batch statuses) (changed (λ _. Running) batch statuses)
  behind_work = record {
    long = length-given (λ host. status_after halt (fails host)) batch statuses ∙ sym (length-changed (λ _. Running) batch statuses);
    each = λ host. by_case host (cases_lt host (length statuses));
  }
    where
      by_case : (host : ℕ) → (host < length statuses) ⊎ (length statuses ≤ host)
          → bit (is_down (status_at (statuses_after halt fails batch statuses) host)) ≤ bit (is_down (status_at (changed (λ _. Running) batch statuses) host))
      by_case host (inl within) =
          let left = status_at-given (λ host. status_after halt (fails host)) batch statuses host within in
          let right = status_at-changed (λ _. Running) batch statuses host within in
          rw (left, right) (one (has_number host batch) (status_after halt (fails host)) (status_at statuses host))
      by_case host (inr past) =
          rw (status_at-given_past (λ host. status_after halt (fails host)) batch statuses host past) (omega arith)

-- a later play lets nobody go down
restarts : (s : Status) (b : Bool) → bit (is_down (restart_status s b)) ≤ bit (is_down s)
restarts Idle true = omega arith
restarts Idle false = omega arith
restarts Waiting true = omega arith
restarts Waiting false = omega arith
restarts Running true = omega arith
restarts Running false = omega arith
restarts Updated true = omega arith
restarts Updated false = omega arith
restarts Failed b = omega arith
restarts Halted b = omega arith
restarts Off b = omega arith
restarts Held true = omega arith
restarts Held false = omega arith

good_restart : (fleet : FleetView) (statuses : List Status) (target : List ℕ) → IsGood fleet statuses → IsGood fleet (restart_statuses statuses target)
good_restart fleet statuses target good = good_less fleet (restart_statuses statuses target) statuses less good
  where
    at : ℕ → Status
    at host = restart_status (status_at statuses host) (has_number host target)

    by_case : (host : ℕ) → (host < length statuses) ⊎ (length statuses ≤ host) → bit (is_down (status_at (restart_statuses statuses target) host)) ≤ bit (is_down (status_at statuses host))
    by_case host (inl within) =
        let here : status_at (restart_statuses statuses target) host ≡ restart_status (status_at statuses host) (has_number host target)
        = get_or-map-range_with_len (λ host. restart_status (status_at statuses host) (has_number host target)) 0 (length statuses) host host Idle within (omega arith) in
        rw here (restarts (status_at statuses host) (has_number host target))
    by_case host (inr past) =
        rw (status_at-past (restart_statuses statuses target) host (omega (arith, past, length-restart_statuses statuses target))) (omega arith)

    less : AreNoMoreDown (restart_statuses statuses target) statuses
    less = record { long = length-restart_statuses statuses target; each = λ host. by_case host (cases_lt host (length statuses)) }

module _ (setting : Setting) where
  abbrev fleet : FleetView
  fleet = setting.fleet

  good_boundary : (opened : ℕ) (statuses : List Status) (boundary : Boundary) → IsGood fleet statuses → IsBoundary setting opened statuses boundary → IsGoodAt fleet boundary
  good_boundary opened statuses boundary good is = record {
    good = subst (IsGood fleet) (sym is.statuses_are) (good_aside fleet (aside_by setting.mode fleet statuses) statuses good);
    fits = next_fits fleet boundary.statuses.items (setting.caps opened) boundary.answer is.best;
  }

  good_behind : (opened : ℕ) (statuses : List Status) (boundary : Boundary) → IsGoodAt fleet boundary → IsBoundary setting opened statuses boundary → IsGood fleet (statuses_behind setting boundary)
  good_behind opened statuses boundary at is =
      let before = boundary.statuses.items in
      let batch = next_batch boundary.answer in
      let work : IsGood fleet (changed (λ _. Running) batch before) = record {
        long = length-changed (λ _. Running) batch before ∙ at.good.long;
        safe = safe_opened (groups_of fleet) before batch (next_ready fleet before (setting.caps opened) boundary.answer is.best) at.fits at.good.safe;
      } in
      good_less fleet (statuses_behind setting boundary) (changed (λ _. Running) batch before) (behind_work (halt_of setting batch) setting.fails batch before) work

  pub good_course : (opened : ℕ) (statuses : List Status) (before : Option End) (boundaries : List Boundary) (end : Option End) → IsGood fleet statuses
      → Continues setting opened statuses before boundaries end → All (IsGoodAt fleet) boundaries
  good_course opened statuses before [] end good goes = all_none (IsGoodAt fleet) [] refl
  good_course opened statuses before (boundary ∷ rest) end good goes =
      let at = good_boundary opened statuses boundary good goes.0 in
      let behind = good_behind opened statuses boundary at goes.0 in
      all_first (IsGoodAt fleet) boundary rest at
      (goes_or_stops (IsGoodAt fleet) rest end
      (λ goes_on. good_course (opened + 1) (statuses_behind setting boundary) (end_behind setting boundary) rest end behind goes_on) (end_here before boundary) goes.1)

-- a course that has come to its end has a boundary, and so the last one's statuses are good
pub record IsGoodCourse (fleet : FleetView) (course : Course) : Type 0 where
  pub some : 1 ≤ length course.boundaries
  pub all : All (IsGoodAt fleet) course.boundaries

has_boundary : (setting : Setting) (statuses : List Status) (boundaries : List Boundary) (end : End) → Continues setting 0 statuses None boundaries (Some end) → 1 ≤ length boundaries
has_boundary setting statuses [] end goes = absurd (cc)
has_boundary setting statuses (boundary ∷ rest) end goes = omega arith

pub good_whole : (setting : Setting) (statuses : List Status) (course : Course) → IsGood setting.fleet statuses
    → Continues setting 0 statuses None course.boundaries (Some course.end) → IsGoodCourse setting.fleet course
good_whole setting statuses course good goes = record {
  some = has_boundary setting statuses course.boundaries course.end goes;
  all = good_course setting 0 statuses None course.boundaries (Some course.end) good goes;
}

last_good : (fleet : FleetView) (statuses : List Status) (boundaries : List Boundary) → 1 ≤ length boundaries → All (IsGoodAt fleet) boundaries → IsGood fleet (last_statuses statuses boundaries)
last_good fleet statuses [] some all = absurd (omega (arith, some))
last_good fleet statuses (boundary ∷ []) some all = (all 0 boundary (omega arith)).good
last_good fleet statuses (boundary ∷ next ∷ rest) some all =
    last_good fleet boundary.statuses.items (next ∷ rest) (omega arith) (λ k d l. all (suc k) d (omega (arith, l)))

module _ (fleet : FleetView) (fails : Fails) where
  pub good_later : (plays : List Play) (statuses : List Status) (courses : List Course) → IsGood fleet statuses
      → AreLaterCourses (map (play_by fleet fails) plays) statuses courses → All (IsGoodCourse fleet) courses
  good_later [] statuses courses good are = all_none (IsGoodCourse fleet) courses are
  good_later (play ∷ plays) statuses [] good are = absurd are
  good_later (play ∷ plays) statuses (course ∷ rest) good are =
      let here = good_whole (play_by fleet fails play).setting (restart_statuses statuses (targets fleet play)) course (good_restart fleet statuses (targets fleet play) good) are.0 in
      all_first (IsGoodCourse fleet) course rest here
      (goes_on_or_stops (IsGoodCourse fleet) course.end rest
      (λ goes. good_later plays (last_statuses [] course.boundaries) rest (last_good fleet [] course.boundaries here.some here.all) goes) are.1)

  pub good_courses : IsSound fleet → (plays : List Play) (courses : List Course) → AreCoursesBy fleet fails plays courses → All (IsGoodCourse fleet) courses
  good_courses sound [] courses are = absurd are
  good_courses sound (first ∷ later) courses are =
      let here = good_whole (play_by fleet fails first).setting (start_statuses fleet (targets fleet first)) are.course (good_start fleet sound (targets fleet first)) are.is_first in
      let others = goes_on_or_stops (IsGoodCourse fleet) are.course.end are.rest
      (λ goes. good_later later (last_statuses [] are.course.boundaries) are.rest (last_good fleet [] are.course.boundaries here.some here.all) goes) are.goes_on in
      subst (All (IsGoodCourse fleet)) (sym are.courses_are) (all_first (IsGoodCourse fleet) are.course are.rest here others)

-- so each course that was followed has boundaries, and each of these a status a host
pub all_walked : (fleet : FleetView) (courses : List PlayCourse) → All (IsGoodCourse fleet) (map course_of courses) → All (IsWalked fleet) courses
all_walked fleet [] good = all_none (IsWalked fleet) [] refl
all_walked fleet (course ∷ rest) good =
    let here = good 0 (course_of course) (omega arith) in
    all_first (IsWalked fleet) course rest (record { some = here.some; all = λ k d l. (here.all k d l).good.long }) (all_walked fleet rest (λ k d l. good (suc k) d (omega (arith, l))))
