-- What the text of a course tells, and what refuses it.
use Rattle.std.proofs.Common.{◌≡◌, ℕ, ◌+◌, ◌*◌, ◌^◌, ◌<◌, ◌≤◌, Bool, true, false, Option, Some, None, List, [], ◌∷◌, ◌++◌, length, map, refl, sym, ap, ◌∙◌, arith, inl, inr, ◌⊎◌}
use Rattle.std.proofs.lemmas.Nat.{mul-le}
use Rattle.std.proofs.Math.Path.{fun_ext}
use Rattle.std.proofs.lemmas.Bool.{and_parts, cases_lt, false_from_ne_true, leb-true, ltb-true}
use Rattle.std.proofs.lemmas.List.{get_or_past, length-map}
use Rattle.std.proofs.lemmas.Slice.Zip.{AllZip-long}
use Rattle.std.specs.Io.KnownBytes.{Keeps}
use Rattle.std.specs.List.{find, list_any}
use Rattle.std.specs.Prelude.{if◌then◌else◌, nat_le, nat_lt}
use Rattle.bounded_io.specs.Sending.{SendsFirst}
use Rattle.text_syntax.specs.Patterns.{parts_of}
use Rattle.domains.specs.FleetViews.{FleetView}
use Rattle.domains.specs.Patterns.{is_named_by, named_hosts, names_nothing}
use Rattle.fleet_index.specs.NumberLists.{has_number}
use Rattle.fleet_index.proofs.RisingLemmas.{has_number-numbers_where}
use Rattle.fleet_states.specs.Batches.{Fails, fails_in}
use Rattle.play_model.specs.declared.play.Play.{Play}
use Rattle.play_forecast.specs.Files.{last_statuses}
use Rattle.play_read.specs.Reads.{IsPlay, IsReadAs}
use Rattle.playbook_schema.specs.Breaches.{Breach, BadShape, Broken, Check, ManyPlays, unless}
use Rattle.playbook_schema.specs.Checks.{AllKept}
use Rattle.playbook_schema.specs.Plays.{play_of, plays_in, plays_of}
use Rattle.plan_command.specs.PlanTexts.{ArePlaysIn, IsFleetIn, IsPlaybookFault, IsUnread}
use Rattle.plan_command.specs.declared.fault.PlanFault.{PlanFault}
use Rattle.plan_command.specs.declared.fault.PlanFault.TheVariants.{Read, Fleet, Playbook, Pattern, Write}
use Rattle.rehearse.specs.Advances.{AreFirstSteps}
use Rattle.rehearse.specs.CourseSteps.{course_of}
use Rattle.rehearse.specs.CourseTexts.{AreCoursesBy, BreaksCourse, IsEndOf, IsTrueCourseFault, courses_text, end_of, failing_by}
use Rattle.rehearse.specs.Stacks.{fail_first}
use Rattle.rehearse.specs.declared.course.PlayCourse.{PlayCourse}
use Rattle.rehearse.specs.declared.course_end.CourseEnd.{CourseEnd}

-- just the named hosts fail, each at its first step
pub fail_so : (fleet : FleetView) (names : List ℕ) (hosts : List ℕ) (failing : List (Option ℕ)) → AreFirstSteps (length fleet.hosts) hosts failing → hosts ≡ named_hosts fleet (parts_of names)
    → fails_in failing ≡ failing_by fleet names
fail_so fleet names hosts failing steps are = fun_ext each ∙ ap fail_first are
  where
    below : (host : ℕ) → has_number host hosts ≡ true → host < length fleet.hosts
    below host here =
        let named : ℕ → Bool = λ h. list_any (is_named_by fleet h) (parts_of names) in
        let both = and_parts (nat_lt host (length fleet.hosts)) (named host) (sym (has_number-numbers_where named (length fleet.hosts) host) ∙ ap (has_number host) (sym are) ∙ here) in
        ltb-true host (length fleet.hosts) both.0

    each : (host : ℕ) → fails_in failing host ≡ fail_first hosts host
    each host = by (cases_lt host (length fleet.hosts))
      where
        by : (host < length fleet.hosts) ⊎ (length fleet.hosts ≤ host) → fails_in failing host ≡ fail_first hosts host
        by (inl within) = steps.each host within
        by (inr past) =
            get_or_past failing host None (omega (arith, past, steps.all))
            ∙ sym (ap (λ b. if b then Some 0 else None) (false_from_ne_true (has_number host hosts) (λ here. absurd (omega (arith, past, below host here)))))

-- a playbook has so many plays at most
kept_second : (a b : Bool) (one other : Breach) (more : List Check) → AllKept (map Broken (unless a one ++ unless b other) ++ more) → b ≡ true
kept_second true true one other more kept = refl
kept_second true false one other more kept = absurd kept
kept_second false b one other more kept = absurd kept

pub few_plays : (most : ℕ) (text : List ℕ) (plays : List Play) → IsReadAs most text plays → length plays ≤ most
few_plays most text plays reads =
    let many : length plays ≡ length (plays_of reads.document) = AllZip-long IsPlay (plays_of reads.document) plays reads.says in
    let written : length (plays_of reads.document) ≡ length (plays_in reads.document) = length-map (plays_in reads.document) play_of in
    let count = length (plays_in reads.document) in
    let few = leb-true count most (kept_second (nat_lt 0 count) (nat_le count most) (BadShape []) ManyPlays _ reads.keeps_all) in
    omega (arith, many, written, few)

-- so many plays of so many hosts open no more batches than a number may count
pub counted : (plays hosts batches : ℕ) → plays ≤ 16 → hosts ≤ 4096 → batches ≤ plays * hosts → batches < 2 ^ 64
counted plays hosts batches few least within =
    let most : plays * hosts ≤ 65536 = mul-le plays hosts 16 4096 few least in omega (arith, most, within)

-- there is a course, so there is a last one
pub some_course : (fleet : FleetView) (fails : Fails) (plays : List Play) (courses : List PlayCourse) → AreCoursesBy fleet fails plays (map course_of courses) → 0 < length courses
some_course fleet fails [] courses are = absurd are
some_course fleet fails (first ∷ later) [] are = absurd (let bad : length (map course_of []) ≡ length (are.course ∷ are.rest) = ap length are.courses_are in omega (arith, bad))
some_course fleet fails (first ∷ later) (course ∷ courses) are = omega arith

some_end : (course : PlayCourse) (courses : List PlayCourse) → (end : CourseEnd) × IsEndOf (map course_of (course ∷ courses)) end
some_end course [] = (end_of course.end (last_statuses [] course.boundaries.items), record { before = []; last = course_of course; are = refl; ends = refl })
some_end course (next ∷ courses) =
    let later = some_end next courses in
    (later.0, record { before = course_of course ∷ later.1.before; last = later.1.last; are = ap (λ l. course_of course ∷ l) later.1.are; ends = later.1.ends })

pub ends_somehow : (courses : List PlayCourse) → 0 < length courses → (end : CourseEnd) × IsEndOf (map course_of courses) end
ends_somehow [] some = absurd (omega (arith, some))
ends_somehow (course ∷ courses) some = some_end course courses

pub unread_is_true : (inventory playbook failing : List ℕ) (old new : Option (List ℕ)) (fault : PlanFault) → Keeps old new → IsUnread inventory fault
    → IsTrueCourseFault inventory playbook failing old new fault
unread_is_true inventory playbook failing old new (Read fault) keeps unread = (unread, keeps)
unread_is_true inventory playbook failing old new (Fleet fault) keeps unread = (unread, keeps)
unread_is_true inventory playbook failing old new (Playbook fault) keeps unread = absurd unread
unread_is_true inventory playbook failing old new (Pattern fault) keeps unread = absurd unread
unread_is_true inventory playbook failing old new (Write fault) keeps unread = absurd unread

pub refused_is_true : (inventory playbook failing : List ℕ) (old new : Option (List ℕ)) (fleet : FleetView) → IsFleetIn inventory fleet → (fault : PlanFault) → Keeps old new
    → IsPlaybookFault fleet playbook fault → IsTrueCourseFault inventory playbook failing old new fault
refused_is_true inventory playbook failing old new fleet built (Playbook fault) keeps refused =
    (record { fleet = fleet; built = built; refused = refused }, keeps)
refused_is_true inventory playbook failing old new fleet built (Pattern fault) keeps refused =
    (inl (record { fleet = fleet; built = built; refused = refused }), keeps)
refused_is_true inventory playbook failing old new fleet built (Read fault) keeps refused = absurd refused
refused_is_true inventory playbook failing old new fleet built (Fleet fault) keeps refused = absurd refused
refused_is_true inventory playbook failing old new fleet built (Write fault) keeps refused = absurd refused

pub breaks_course : (inventory playbook failing : List ℕ) (old new : Option (List ℕ)) (fleet : FleetView) (plays : List Play) (courses : List PlayCourse) (several : Bool) (count : ℕ)
    → IsFleetIn inventory fleet → ArePlaysIn fleet playbook plays → find (names_nothing fleet) (parts_of failing) ≡ None
    → AreCoursesBy fleet (failing_by fleet failing) plays (map course_of courses) → several ≡ nat_lt 1 (length plays)
    → SendsFirst old new (courses_text fleet several (map course_of courses)) count → BreaksCourse inventory playbook failing old new count
breaks_course inventory playbook failing old new fleet plays courses several count built says known are is written =
    let ends = ends_somehow courses (some_course fleet (failing_by fleet failing) plays courses are) in
    record {
      text = courses_text fleet several (map course_of courses);
      end = ends.0;
      is = record {
        fleet = fleet;
        plays = plays;
        read = record { built = built; says = says };
        known = known;
        courses = map course_of courses;
        courses_are = are;
        text_is = ap (λ b. courses_text fleet b (map course_of courses)) is;
        ends = ends.1;
      };
      written = written;
    }
