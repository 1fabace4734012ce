-- What the readers and the writers say, as commands tell it that answer as JSON.
use Rattle.std.proofs.Common.{◌≡◌, ◌∙◌, ℕ, None, List, Option, ap, inl, refl, map, subst}
use Rattle.std.specs.List.{find}
use Rattle.std.specs.Io.KnownBytes.{Appends, Keeps}
use Rattle.bounded_io.specs.Sending.{SendsFirst}
use Rattle.text_syntax.specs.Patterns.{parts_of}
use Rattle.domains.specs.FleetViews.{FleetView}
use Rattle.domains.specs.Ids.{host_numbers}
use Rattle.group_tree.specs.declared.ids.HostId.{HostId}
use Rattle.domains.specs.Patterns.{names_nothing}
use Rattle.batch_plan.specs.declared.answers.Answer.{Answer}
use Rattle.json_output.specs.PlanJson.{plan_json}
use Rattle.play_model.specs.declared.play.Play.{Play}
use Rattle.plan_command.specs.Ends.{end_of}
use Rattle.plan_command.specs.PlanTexts.{ArePlaysIn, IsFleetIn, IsPlaybookFault, IsPlaybookPlan, IsUnread}
use Rattle.plan_command.specs.declared.end.End.{End}
use Rattle.plan_command.specs.declared.fault.PlanFault.{PlanFault}
use Rattle.plan_command.specs.declared.fault.PlanFault.TheVariants.{Read, Fleet, Playbook, Pattern, Write}
use Rattle.rehearse.specs.CourseSteps.{course_of}
use Rattle.rehearse.specs.CourseTexts.{AreCoursesBy, IsEndOf, failing_by}
use Rattle.rehearse.specs.declared.course.PlayCourse.{PlayCourse}
use Rattle.rehearse.specs.declared.course_end.CourseEnd.{CourseEnd}
use Rattle.rehearse.proofs.CourseTextLemmas.{ends_somehow, some_course}
use Rattle.json_commands.specs.LimitsTexts.{IsTrueLimitsFault}
use Rattle.json_commands.specs.PlanTexts.{BreaksPlanJson, IsTruePlanFault, WritesPlanJson}
use Rattle.json_commands.specs.CourseTexts.{BreaksCourseJson, IsTrueCourseJsonFault, WritesCourseJson, courses_json}

pub unread_limits : (inventory : List ℕ) (old new : Option (List ℕ)) (fault : PlanFault) → Keeps old new → IsUnread inventory fault → IsTrueLimitsFault inventory old new fault
unread_limits inventory old new (Read fault) keeps unread = (unread, keeps)
unread_limits inventory old new (Fleet fault) keeps unread = (unread, keeps)
unread_limits inventory old new (Playbook fault) keeps unread = absurd unread
unread_limits inventory old new (Pattern fault) keeps unread = absurd unread
unread_limits inventory old new (Write fault) keeps unread = absurd unread

pub unread_plan : (inventory playbook : List ℕ) (old new : Option (List ℕ)) (fault : PlanFault) → Keeps old new → IsUnread inventory fault → IsTruePlanFault inventory playbook old new fault
unread_plan inventory playbook old new (Read fault) keeps unread = (unread, keeps)
unread_plan inventory playbook old new (Fleet fault) keeps unread = (unread, keeps)
unread_plan inventory playbook old new (Playbook fault) keeps unread = absurd unread
unread_plan inventory playbook old new (Pattern fault) keeps unread = absurd unread
unread_plan inventory playbook old new (Write fault) keeps unread = absurd unread

pub refused_plan : (inventory playbook : List ℕ) (old new : Option (List ℕ)) (fleet : FleetView) → IsFleetIn inventory fleet → (fault : PlanFault) → Keeps old new → IsPlaybookFault fleet playbook fault
    → IsTruePlanFault inventory playbook old new fault
refused_plan inventory playbook old new fleet built (Playbook fault) keeps refused =
    (record { fleet = fleet; built = built; refused = refused }, keeps)
refused_plan inventory playbook old new fleet built (Pattern fault) keeps refused =
    (record { fleet = fleet; built = built; refused = refused }, keeps)
refused_plan inventory playbook old new fleet built (Read fault) keeps refused = absurd refused
refused_plan inventory playbook old new fleet built (Fleet fault) keeps refused = absurd refused
refused_plan inventory playbook old new fleet built (Write fault) keeps refused = absurd refused

-- what is written of a plan whose hosts that are set aside were lent
module _ (inventory playbook : List ℕ) (old new : Option (List ℕ)) (fleet : FleetView) (answer : Answer) (held shown : List HostId) (built : IsFleetIn inventory fleet)
    (plan : IsPlaybookPlan fleet playbook answer (host_numbers held)) (lent : shown ≡ held) where
  pub writes_plan : (told : List HostId) (end : End) → told ≡ held → Appends old new (plan_json fleet answer (host_numbers shown)) → end ≡ end_of answer (host_numbers told) → WritesPlanJson inventory playbook old new end
  writes_plan told end is_told written ends = record {
    text = plan_json fleet answer (host_numbers held);
    is = record {
      fleet = fleet;
      answer = answer;
      held = host_numbers held;
      plan = record { built = built; plan = plan };
      text_is = refl;
      ends = ends ∙ ap (λ (hosts : List HostId). end_of answer (host_numbers hosts)) is_told;
    };
    written = subst (λ (hosts : List HostId). Appends old new (plan_json fleet answer (host_numbers hosts))) lent written;
  }

  pub breaks_plan : (count : ℕ) → SendsFirst old new (plan_json fleet answer (host_numbers shown)) count → BreaksPlanJson inventory playbook old new count
  breaks_plan count written = record {
    text = plan_json fleet answer (host_numbers held);
    end = end_of answer (host_numbers held);
    is = record { fleet = fleet; answer = answer; held = host_numbers held; plan = record { built = built; plan = plan }; text_is = refl; ends = refl };
    written = subst (λ (hosts : List HostId). SendsFirst old new (plan_json fleet answer (host_numbers hosts)) count) lent written;
  }

pub unread_course : (inventory playbook failing : List ℕ) (old new : Option (List ℕ)) (fault : PlanFault) → Keeps old new → IsUnread inventory fault
    → IsTrueCourseJsonFault inventory playbook failing old new fault
unread_course inventory playbook failing old new (Read fault) keeps unread = (unread, keeps)
unread_course inventory playbook failing old new (Fleet fault) keeps unread = (unread, keeps)
unread_course inventory playbook failing old new (Playbook fault) keeps unread = absurd unread
unread_course inventory playbook failing old new (Pattern fault) keeps unread = absurd unread
unread_course inventory playbook failing old new (Write fault) keeps unread = absurd unread

pub refused_course : (inventory playbook failing : List ℕ) (old new : Option (List ℕ)) (fleet : FleetView) → IsFleetIn inventory fleet → (fault : PlanFault) → Keeps old new
    → IsPlaybookFault fleet playbook fault → IsTrueCourseJsonFault inventory playbook failing old new fault
refused_course inventory playbook failing old new fleet built (Playbook fault) keeps refused =
    (record { fleet = fleet; built = built; refused = refused }, keeps)
refused_course inventory playbook failing old new fleet built (Pattern fault) keeps refused =
    (inl (record { fleet = fleet; built = built; refused = refused }), keeps)
refused_course inventory playbook failing old new fleet built (Read fault) keeps refused = absurd refused
refused_course inventory playbook failing old new fleet built (Fleet fault) keeps refused = absurd refused
refused_course inventory playbook failing old new fleet built (Write fault) keeps refused = absurd refused

pub writes_course : (inventory playbook failing : List ℕ) (old new : Option (List ℕ)) (fleet : FleetView) (plays : List Play) (courses shown told : List PlayCourse) (end : CourseEnd)
    → IsFleetIn inventory fleet → ArePlaysIn fleet playbook plays → find (names_nothing fleet) (parts_of failing) ≡ None
    → AreCoursesBy fleet (failing_by fleet failing) plays (map course_of courses) → shown ≡ courses → told ≡ courses
    → Appends old new (courses_json fleet (map course_of shown)) → IsEndOf (map course_of told) end → WritesCourseJson inventory playbook failing old new end
writes_course inventory playbook failing old new fleet plays courses shown told end built says known are is_shown is_told written ends = record {
  text = courses_json fleet (map course_of courses);
  is = record {
    fleet = fleet;
    plays = plays;
    read = record { built = built; says = says };
    known = known;
    courses = map course_of courses;
    courses_are = are;
    text_is = refl;
    ends = subst (λ (l : List PlayCourse). IsEndOf (map course_of l) end) is_told ends;
  };
  written = subst (λ (l : List PlayCourse). Appends old new (courses_json fleet (map course_of l))) is_shown written;
}

pub breaks_course : (inventory playbook failing : List ℕ) (old new : Option (List ℕ)) (fleet : FleetView) (plays : List Play) (courses : List PlayCourse) (count : ℕ)
    → IsFleetIn inventory fleet → ArePlaysIn fleet playbook plays → find (names_nothing fleet) (parts_of failing) ≡ None
    → AreCoursesBy fleet (failing_by fleet failing) plays (map course_of courses)
    → SendsFirst old new (courses_json fleet (map course_of courses)) count → BreaksCourseJson inventory playbook failing old new count
breaks_course inventory playbook failing old new fleet plays courses count built says known are written =
    let ends = ends_somehow courses (some_course fleet (failing_by fleet failing) plays courses are) in
    record {
      text = courses_json fleet (map course_of courses);
      end = ends.0;
      is = record {
        fleet = fleet;
        plays = plays;
        read = record { built = built; says = says };
        known = known;
        courses = map course_of courses;
        courses_are = are;
        text_is = refl;
        ends = ends.1;
      };
      written = written;
    }
