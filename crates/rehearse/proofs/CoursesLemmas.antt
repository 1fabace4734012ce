-- Courses one behind the other, and their text.
use Rattle.std.proofs.Common.{◌≡◌, ℕ, zero, suc, ◌+◌, ◌-◌, ◌*◌, ◌<◌, ◌≤◌, true, false, Some, List, [], ◌∷◌, ◌++◌, flat_map, get_or, length, map, slice_get, drop, take, refl, sym, ap, ◌∙◌, subst, arith, append_assoc}
use Rattle.std.proofs.lemmas.List.{length-map, take-map, take_rest}
use Rattle.std.specs.Prelude.{Err, IfOk, Ok, OnOk, Result}
use Rattle.std.proofs.lemmas.List.Sums.{sum_by-cons}
use Rattle.std.proofs.Math.Nat.{suc-mul}
use Rattle.std.proofs.lemmas.Option.{same_Some}
use Rattle.std.specs.List.{range_with_len, sum_by}
use Rattle.domains.specs.FleetViews.{FleetView}
use Rattle.fleet_states.specs.Batches.{Fails}
use Rattle.fleet_states.specs.Starts.{start_statuses}
use Rattle.fleet_states.specs.Statuses.{status_at}
use Rattle.fleet_states.specs.declared.status.Status.{Status}
use Rattle.batch_plan.specs.Beginnings.{restart_statuses}
use Rattle.play_model.specs.declared.play.Play.{Play}
use Rattle.play_forecast.specs.Files.{AreCourses, AreLaterCourses, Course, GoesOn, PlaySetting, last_statuses}
use Rattle.play_forecast.specs.PlayPlans.{targets}
use Rattle.play_forecast.specs.declared.boundary.Boundary.{Boundary}
use Rattle.play_forecast.specs.declared.end.End.{End}
use Rattle.play_forecast.specs.declared.end.End.TheVariants.{Finished, Held, Blocked, TooManyFailed, AllFailed}
use Rattle.recap.proofs.PlaceLemmas.{text_more_from}
use Rattle.recap.specs.RecapText.{boundary_lines, counts_at, end_line, host_line_of, host_lines, text_by_place}
use Rattle.rehearse.specs.CourseSteps.{HasFollowed, IsWholeCourse, course_of, is_finished}
use Rattle.rehearse.specs.CourseTexts.{AreCoursesBy, AreCoursesFrom, IsEndOf, batches_opened, course_lines, end_of, play_by, setting_by}
use Rattle.rehearse.specs.declared.course.PlayCourse.{PlayCourse}
use Rattle.rehearse.specs.declared.course_end.CourseEnd.{CourseEnd}

-- the statuses of the last boundary
last_from : (statuses : List Status) (boundaries : List Boundary) (i : ℕ) (last : Boundary) → i + 1 ≡ length boundaries → slice_get boundaries i ≡ Some last
    → last.statuses.items ≡ last_statuses statuses boundaries
last_from statuses [] i last at there = absurd (omega (arith, at))
last_from statuses (b ∷ []) zero last at there = ap (λ (x : Boundary). x.statuses.items) (sym (same_Some _ _ there))
last_from statuses (b ∷ []) (suc i) last at there = absurd (omega (arith, at))
last_from statuses (b ∷ c ∷ bs) zero last at there = absurd (omega (arith, at))
last_from statuses (b ∷ c ∷ bs) (suc i) last at there = last_from b.statuses.items (c ∷ bs) i last (omega (arith, at)) there

pub last_is : (boundaries : List Boundary) (last : Boundary) → slice_get boundaries (length boundaries - 1) ≡ Some last → last.statuses.items ≡ last_statuses [] boundaries
last_is [] last there = absurd (cc)
last_is (b ∷ bs) last there = last_from [] (b ∷ bs) (length (b ∷ bs) - 1) last (omega arith) there

-- where no course follows
none_follow : (end : End) (Goes : Type 0) → (end ≡ Finished → Goes) → GoesOn end [] Goes
none_follow Finished Goes goes = goes refl
none_follow Held Goes goes = refl
none_follow (Blocked group) Goes goes = refl
none_follow (TooManyFailed step failed size) Goes goes = refl
none_follow AllFailed Goes goes = refl

unfinished : (end : End) → is_finished end ≡ false → end ≡ Finished → ⊥
unfinished Finished not is = cc
unfinished Held not is = cc
unfinished (Blocked group) not is = cc
unfinished (TooManyFailed step failed size) not is = cc
unfinished AllFailed not is = cc

pub finished : (end : End) → is_finished end ≡ true → end ≡ Finished
finished Finished is = refl
finished Held is = cc
finished (Blocked group) is = cc
finished (TooManyFailed step failed size) is = cc
finished AllFailed is = cc

module _ (fleet : FleetView) (fails : Fails) (before : PlayCourse) (old new : List PlayCourse) where
  abbrev left : List Status
  left = last_statuses [] before.boundaries.items

  abbrev settings : List Play → List PlaySetting
  settings plays = map (play_by fleet fails) plays

  -- no play is left
  pub no_more : new ≡ old ++ before ∷ [] → HasFollowed fleet fails [] before old new
  no_more grown = record { more = []; grown = grown; resume = none_follow before.end (AreLaterCourses [] left []) (λ _. refl); few = omega arith }

  -- the play ends otherwise than finished
  pub stops : (plays : List Play) → is_finished before.end ≡ false → new ≡ old ++ before ∷ [] → HasFollowed fleet fails plays before old new
  stops plays not grown =
      record { more = []; grown = grown; resume = none_follow before.end (AreLaterCourses (settings plays) left []) (λ is. absurd (unfinished before.end not is)); few = omega arith }

  -- a play more, and those after it
  pub one_more : (play : Play) (plays : List Play) (course : PlayCourse) (kept : List PlayCourse) → before.end ≡ Finished → kept ≡ old ++ before ∷ []
      → IsWholeCourse (setting_by fleet fails play) (restart_statuses left (targets fleet play)) course
      → HasFollowed fleet fails plays course kept new → HasFollowed fleet fails (play ∷ plays) before old new
  one_more play plays course kept is puts whole has =
      let courses : List Course = map course_of (course ∷ has.more) in
      let goes : AreLaterCourses (settings (play ∷ plays)) left courses = (whole.is, has.resume) in
      let counted = sum_by-cons batches_opened (course_of course) (map course_of has.more) in
      let times : suc (length plays) * length fleet.hosts ≡ length fleet.hosts + length plays * length fleet.hosts = suc-times (length plays) (length fleet.hosts) in
      record {
        more = course ∷ has.more;
        grown = has.grown ∙ ap (λ l. l ++ course ∷ has.more) puts ∙ append_assoc old (before ∷ []) (course ∷ has.more);
        resume = subst (λ (e : End). GoesOn e courses (AreLaterCourses (settings (play ∷ plays)) left courses)) (sym is) goes;
        few = omega (arith, counted, whole.few, has.few, times);
      }
    where
      suc-times : (m n : ℕ) → suc m * n ≡ n + m * n
      suc-times m n = omega (arith, suc-mul m n)

pub split : (plays : List Play) (first : Play) → 1 ≤ length plays → first ≡ get_or plays 0 first → plays ≡ first ∷ take (length plays - 1) (drop 1 plays)
split [] first long is = absurd (omega (arith, long))
split (play ∷ plays) first long is =
    ap (λ p. p ∷ plays) (sym is) ∙ ap (λ l. first ∷ l) (sym (take_rest (play ∷ plays) 1))

-- the first of these plays begins as a run does
pub begin_by : (fleet : FleetView) (fails : Fails) (plays : List Play) (first : Play) (statuses : List Status) (courses : List Course) → 1 ≤ length plays → first ≡ get_or plays 0 first
    → statuses ≡ start_statuses fleet (targets fleet first) → AreCoursesFrom fleet fails plays statuses courses → AreCoursesBy fleet fails plays courses
begin_by fleet fails [] first statuses courses long is begins are = absurd (omega (arith, long))
begin_by fleet fails (play ∷ plays) first statuses courses long is begins are =
    subst (λ (l : List Status). AreCourses (setting_by fleet fails play) (map (play_by fleet fails) plays) l courses) (begins ∙ ap (λ (p : Play). start_statuses fleet (targets fleet p)) is) are

pub all_ok : {V E : Type 0} {P Q : V → Type 0} (result : Result V E) → ((value : V) → P value → Q value) → IfOk result P → IfOk result Q
all_ok (Ok value) then is = then value is
all_ok (Err fault) then is = is

pub on_ok : {V E A B : Type 0} (result : Result V E) → (A → B) → OnOk result A → OnOk result B
on_ok (Ok value) then is = then is
on_ok (Err fault) then is = tt

-- of a recap that tells of no host its boundaries and its end are left
nobody_told : (f : ℕ → List ℕ) → ((host : ℕ) → f host ≡ []) → (hosts : List ℕ) → flat_map f hosts ≡ []
nobody_told f none [] = refl
nobody_told f none (host ∷ hosts) = ap (λ l. l ++ flat_map f hosts) (none host) ∙ nobody_told f none hosts

pub without_hosts : (fleet : FleetView) (course : Course)
    → boundary_lines fleet (batches_opened course) course.boundaries ++ (host_lines fleet [] [] ++ end_line fleet (Some course.end)) ≡ course_lines fleet course
without_hosts fleet course =
    ap (λ l. boundary_lines fleet (batches_opened course) course.boundaries ++ (l ++ end_line fleet (Some course.end)))
    (nobody_told (λ host. host_line_of fleet host (status_at [] host) (counts_at [] host)) (λ host. refl) (range_with_len 0 (length fleet.hosts)))

-- how the last of the courses ends
pub ends_as : (courses : List PlayCourse) (i : ℕ) (d : PlayCourse) (end : CourseEnd) → i + 1 ≡ length courses
    → end ≡ end_of (get_or courses i d).end (last_statuses [] (get_or courses i d).boundaries.items)
    → IsEndOf (map course_of courses) end
ends_as [] i d end at is = absurd (omega (arith, at))
ends_as (c ∷ []) zero d end at is = record { before = []; last = course_of c; are = refl; ends = is }
ends_as (c ∷ []) (suc i) d end at is = absurd (omega (arith, at))
ends_as (c ∷ e ∷ cs) zero d end at is = absurd (omega (arith, at))
ends_as (c ∷ e ∷ cs) (suc i) d end at is =
    let later = ends_as (e ∷ cs) i d end (omega (arith, at)) is in
    record { before = course_of c ∷ later.before; last = later.last; are = ap (λ l. course_of c ∷ l) later.are; ends = later.ends }

-- a course more among those that are counted
pub within_sum : (courses : List PlayCourse) (i : ℕ) (course : PlayCourse) → i < length courses → course ≡ get_or courses i course
    → sum_by batches_opened (map course_of (take i courses)) + batches_opened (course_of course) ≤ sum_by batches_opened (map course_of courses)
within_sum [] i course within is = absurd (omega (arith, within))
within_sum (c ∷ cs) zero course within is =
    omega (arith, ap (λ x. batches_opened (course_of x)) is, sum_by-cons batches_opened (course_of c) (map course_of cs))
within_sum (c ∷ cs) (suc i) course within is =
    omega (arith, within_sum cs i course (omega (arith, within)) is, sum_by-cons batches_opened (course_of c) (map course_of cs), sum_by-cons batches_opened (course_of c) (map course_of (take i cs)))

at_map : (courses : List PlayCourse) (i : ℕ) (course : PlayCourse) → i < length courses → course ≡ get_or courses i course → course_of course ≡ get_or (map course_of courses) i (course_of course)
at_map [] i course within is = absurd (omega (arith, within))
at_map (c ∷ cs) zero course within is = ap course_of is
at_map (c ∷ cs) (suc i) course within is = at_map cs i course (omega (arith, within)) is

-- and among those that are written, the first of which stands at this place
pub line_more_from : (piece : ℕ → Course → List ℕ) (before : ℕ) (courses : List PlayCourse) (i : ℕ) (course : PlayCourse) → i < length courses → course ≡ get_or courses i course
    → text_by_place piece before (map course_of (take i courses)) ++ piece (before + i) (course_of course) ≡ text_by_place piece before (map course_of (take (i + 1) courses))
line_more_from piece before courses i course within is =
    let all : List Course = map course_of courses in
    ap (λ l. text_by_place piece before l ++ piece (before + i) (course_of course)) (sym (take-map course_of i courses))
    ∙ text_more_from piece before all i (course_of course) (omega (arith, within, length-map courses course_of)) (at_map courses i course within is)
    ∙ ap (text_by_place piece before) (take-map course_of (i + 1) courses)

pub line_more : (piece : ℕ → Course → List ℕ) (courses : List PlayCourse) (i : ℕ) (course : PlayCourse) → i < length courses → course ≡ get_or courses i course
    → text_by_place piece 0 (map course_of (take i courses)) ++ piece i (course_of course) ≡ text_by_place piece 0 (map course_of (take (i + 1) courses))
line_more piece courses i course within is =
    let there : i ≡ 0 + i = omega arith in
    ap (λ n. text_by_place piece 0 (map course_of (take i courses)) ++ piece n (course_of course)) there ∙ line_more_from piece 0 courses i course within is
