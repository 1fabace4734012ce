-- Two texts have one plan and one text of courses.
use Rattle.std.proofs.Common.{◌≡◌, ℕ, ◌-◌, ◌+◌, ◌++◌, List, [], ◌∷◌, codes, length, nat_lt, refl, sym, ap, ap₂, ◌∙◌, subst}
use Rattle.std.specs.List.{sum_by}
use Rattle.domains.specs.FleetViews.{FleetView}
use Rattle.batch_plan.specs.declared.answers.Answer.{Answer}
use Rattle.batch_plan.specs.Answers.{IsSameAnswer}
use Rattle.play_forecast.specs.Courses.{batches_of}
use Rattle.play_forecast.specs.Files.{Course}
use Rattle.play_forecast.specs.Laws.{AreSameBoundaries, AreSameCourses}
use Rattle.play_forecast.specs.declared.end.End.{End}
use Rattle.play_forecast.proofs.AlikeLemmas.{one_plan}
use Rattle.recap.specs.LimitsText.{field_text}
use Rattle.recap.specs.RecapText.{text_by_place}
use Rattle.plan_command.specs.Ends.{end_of}
use Rattle.plan_command.specs.PlanTexts.{IsPlaybookPlan}
use Rattle.plan_command.proofs.UniqueLemmas.{first_alike, one_fleet_in, same_end}
use Rattle.rehearse.specs.CourseTexts.{batches_opened}
use Rattle.rehearse.proofs.OneCourseLemmas.{same_ends, same_readings}
use Rattle.rehearse.proofs.SameTextLemmas.{same_many, same_sum}
use Rattle.json_output.specs.Arrays.{comma_if}
use Rattle.json_output.specs.PlanJson.{answer_json, batches_json, names_json, plan_json}
use Rattle.json_output.specs.PlayJson.{boundaries_json, course_json, ended_json}
use Rattle.json_output.proofs.SameLemmas.{same_answer, same_batches, same_boundaries}
use Rattle.json_commands.specs.CourseTexts.{courses_json}
use Rattle.json_commands.specs.Laws.{OneCourseJson, OnePlanJson}

same_plan : (fleet : FleetView) (answer other : Answer) (held hosts : List ℕ) → IsSameAnswer answer other → held ≡ hosts → plan_json fleet answer held ≡ plan_json fleet other hosts
same_plan fleet answer other held hosts same set_aside =
    let made : List ℕ → List ℕ → List ℕ → List ℕ = λ a b h. codes "{\"answer\":" ++ (a ++ (codes ",\"batches\":" ++ (b ++ (codes ",\"held\":" ++ (h ++ codes "}\n"))))) in
    ap (λ a. made a (batches_json fleet (batches_of answer)) (names_json fleet held)) (same_answer fleet answer other same)
    ∙ ap (λ (b : List (List ℕ)). made (answer_json fleet other) (batches_json fleet b) (names_json fleet held)) (same_batches answer other same)
    ∙ ap (λ (h : List ℕ). made (answer_json fleet other) (batches_json fleet (batches_of other)) (names_json fleet h)) set_aside

pub one_plan_json : OnePlanJson
one_plan_json inventory playbook text other end otherwise first second =
    let fleet : FleetView = first.fleet in
    let same : fleet ≡ second.fleet = one_fleet_in inventory fleet second.fleet first.plan.built second.plan.built in
    let its : IsPlaybookPlan fleet playbook first.answer first.held = first.plan.plan in
    let also : IsPlaybookPlan fleet playbook second.answer second.held = subst (λ (f : FleetView). IsPlaybookPlan f playbook second.answer second.held) (sym same) second.plan.plan in
    let alike = first_alike 16 playbook its.plays also.plays its.plan.others also.plan.others its.plan.first also.plan.first its.reads also.reads its.plan.are also.plan.are in
    let one = one_plan fleet its.plan.first also.plan.first first.answer second.answer first.held second.held alike its.plan.plan also.plan.plan in (
      first.text_is ∙ same_plan fleet first.answer second.answer first.held second.held one.0 one.1 ∙ ap (λ (f : FleetView). plan_json f second.answer second.held) same ∙ sym second.text_is,
      first.ends ∙ same_end first.answer second.answer first.held one.0 ∙ ap (end_of second.answer) one.1 ∙ sym second.ends,
    )

-- the same courses are written alike
module _ (fleet : FleetView) where
  same_course : (number : ℕ) (course other : Course) → AreSameBoundaries course.boundaries other.boundaries → course.end ≡ other.end → course_json fleet number course ≡ course_json fleet number other
  same_course number course other same end =
      let made : List ℕ → List ℕ → List ℕ = λ b e. field_text (codes "{\"play\":") number ++ (codes ",\"boundaries\":" ++ (b ++ (codes ",\"end\":" ++ (e ++ codes "}")))) in
      let many = ap (λ (n : ℕ). n - 1) (same_many course.boundaries other.boundaries same) in
      ap (λ b. made b (ended_json fleet course.end)) (same_boundaries fleet (length course.boundaries - 1) (length other.boundaries - 1) course.boundaries other.boundaries same many)
      ∙ ap (λ (e : End). made (boundaries_json fleet (length other.boundaries - 1) other.boundaries) (ended_json fleet e)) end

  same_entries : (place : ℕ) (courses others : List Course) → AreSameCourses courses others
      → text_by_place (λ at course. comma_if (nat_lt 0 at) ++ course_json fleet (at + 1) course) place courses ≡ text_by_place (λ at course. comma_if (nat_lt 0 at) ++ course_json fleet (at + 1) course) place others
  same_entries place [] [] same = refl
  same_entries place [] (c ∷ cs) same = absurd same
  same_entries place (b ∷ bs) [] same = absurd same
  same_entries place (b ∷ bs) (c ∷ cs) same =
      ap₂ ◌++◌ (ap (λ (text : List ℕ). comma_if (nat_lt 0 place) ++ text) (same_course (place + 1) b c same.0 same.1)) (same_entries (place + 1) bs cs same.2)

  same_courses : (courses others : List Course) → AreSameCourses courses others → courses_json fleet courses ≡ courses_json fleet others
  same_courses courses others same =
      let made : List ℕ → ℕ → List ℕ = λ entries batches. codes "{\"plays\":" ++ ((codes "[" ++ (entries ++ codes "]")) ++ (field_text (codes ",\"batches\":") batches ++ codes "}\n")) in
      ap (λ (text : List ℕ). made text (sum_by batches_opened courses)) (same_entries 0 courses others same)
      ∙ ap (made (text_by_place (λ at course. comma_if (nat_lt 0 at) ++ course_json fleet (at + 1) course) 0 others)) (same_sum fleet courses others same)

pub one_course_json : OneCourseJson
one_course_json inventory playbook failing text other end otherwise first second =
    let one = same_readings inventory playbook failing first.fleet second.fleet first.plays second.plays first.courses second.courses first.read second.read first.courses_are second.courses_are in (
      first.text_is ∙ same_courses first.fleet first.courses second.courses one.2 ∙ ap (λ (f : FleetView). courses_json f second.courses) one.0 ∙ sym second.text_is,
      same_ends first.courses second.courses end otherwise one.2 first.ends second.ends,
    )
