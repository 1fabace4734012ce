-- The same courses are written alike.
use Rattle.std.proofs.Common.{◌≡◌, ℕ, ◌+◌, ◌-◌, ◌++◌, suc, Bool, true, false, Some, List, [], ◌∷◌, codes, length, refl, sym, ap, ap₂, ◌∙◌}
use Rattle.std.specs.Prelude.{nat_lt}
use Rattle.std.specs.List.{sum_by}
use Rattle.std.proofs.lemmas.List.Sums.{sum_by-cons}
use Rattle.group_tree.specs.declared.ids.GroupId.{GroupId}
use Rattle.domains.specs.FleetViews.{FleetView}
use Rattle.fleet_index.specs.NumberLists.{list_at}
use Rattle.batch_plan.specs.Answers.{IsSameAnswer}
use Rattle.batch_plan.specs.declared.answers.Answer.{Answer}
use Rattle.batch_plan.specs.declared.answers.Answer.TheVariants.{Planned, Blocked}
use Rattle.play_forecast.specs.Courses.{batches_of}
use Rattle.play_forecast.specs.Files.{Course}
use Rattle.play_forecast.specs.Laws.{AreSameBoundaries, AreSameCourses, IsSameBoundary}
use Rattle.play_forecast.specs.declared.boundary.Boundary.{Boundary}
use Rattle.recap.specs.PlanText.{answer_line, blocked_line, held_line, names_line, planned_line}
use Rattle.recap.specs.RecapText.{boundary_lines, boundary_text, end_line, open_line, text_by_place}
use Rattle.rehearse.specs.CourseTexts.{batches_line, batches_opened, course_lines, courses_text_from, numbered}

-- the same answers are written alike, and open the same batch
same_line : (fleet : FleetView) (answer other : Answer) → IsSameAnswer answer other → answer_line fleet answer ≡ answer_line fleet other
same_line fleet (Planned plan) (Planned other) same =
    ap (λ (batches : List (List ℕ)). planned_line fleet (length batches) plan.bound) same.0 ∙ ap (planned_line fleet (length other.batches)) same.1
same_line fleet (Planned plan) (Blocked group waiting) same = absurd same
same_line fleet (Blocked group waiting) (Planned plan) same = absurd same
same_line fleet (Blocked group waiting) (Blocked other number) same =
    ap (λ (g : GroupId). blocked_line fleet g.index waiting) same.0 ∙ ap (blocked_line fleet other.index) same.1

pub same_batches : (answer other : Answer) → IsSameAnswer answer other → batches_of answer ≡ batches_of other
same_batches (Planned plan) (Planned other) same = same.0
same_batches (Planned plan) (Blocked group waiting) same = absurd same
same_batches (Blocked group waiting) (Planned plan) same = absurd same
same_batches (Blocked group waiting) (Blocked other number) same = refl

pub same_many : (boundaries others : List Boundary) → AreSameBoundaries boundaries others → length boundaries ≡ length others
same_many [] [] same = refl
same_many [] (c ∷ cs) same = absurd same
same_many (b ∷ bs) [] same = absurd same
same_many (b ∷ bs) (c ∷ cs) same = ap suc (same_many bs cs same.1)

-- the same boundaries are written alike
module _ (fleet : FleetView) where
  same_open : (answer other : Answer) (opened : Bool) → IsSameAnswer answer other → open_line fleet answer opened ≡ open_line fleet other opened
  same_open answer other true same = ap (λ batches. names_line (codes "open:") fleet (list_at batches 0)) (same_batches answer other same)
  same_open answer other false same = refl

  same_boundary : (number : ℕ) (boundary other : Boundary) (opened : Bool) → IsSameBoundary boundary other → boundary_text fleet number boundary opened ≡ boundary_text fleet number other opened
  same_boundary number boundary other opened same =
      let line = same_line fleet boundary.answer other.answer same.answer in
      let held = ap (held_line fleet) same.held in
      let batch = same_open boundary.answer other.answer opened same.answer in
      rw (line, held, batch) refl

  same_from : (opened place : ℕ) (boundaries others : List Boundary) → AreSameBoundaries boundaries others
      → text_by_place (λ at boundary. boundary_text fleet (at + 1) boundary (nat_lt at opened)) place boundaries
      ≡ text_by_place (λ at boundary. boundary_text fleet (at + 1) boundary (nat_lt at opened)) place others
  same_from opened place [] [] same = refl
  same_from opened place [] (c ∷ cs) same = absurd same
  same_from opened place (b ∷ bs) [] same = absurd same
  same_from opened place (b ∷ bs) (c ∷ cs) same = ap₂ ◌++◌ (same_boundary (place + 1) b c (nat_lt place opened) same.0) (same_from opened (place + 1) bs cs same.1)

  pub same_course : (course other : Course) → AreSameBoundaries course.boundaries other.boundaries → course.end ≡ other.end → course_lines fleet course ≡ course_lines fleet other
  same_course course other same end =
      let lines = same_from (batches_opened course) 0 course.boundaries other.boundaries same
      ∙ ap (λ n. boundary_lines fleet (n - 1) other.boundaries) (same_many course.boundaries other.boundaries same) in
      ap₂ ◌++◌ lines (ap (λ e. end_line fleet (Some e)) end)

  same_lines : (several : Bool) (place : ℕ) (courses others : List Course) → AreSameCourses courses others
      → text_by_place (λ at course. numbered several (at + 1) (course_lines fleet course)) place courses
      ≡ text_by_place (λ at course. numbered several (at + 1) (course_lines fleet course)) place others
  same_lines several place [] [] same = refl
  same_lines several place [] (c ∷ cs) same = absurd same
  same_lines several place (b ∷ bs) [] same = absurd same
  same_lines several place (b ∷ bs) (c ∷ cs) same =
      ap₂ ◌++◌ (ap (numbered several (place + 1)) (same_course b c same.0 same.1)) (same_lines several (place + 1) bs cs same.2)

  pub same_sum : (courses others : List Course) → AreSameCourses courses others → sum_by batches_opened courses ≡ sum_by batches_opened others
  same_sum [] [] same = refl
  same_sum [] (c ∷ cs) same = absurd same
  same_sum (b ∷ bs) [] same = absurd same
  same_sum (b ∷ bs) (c ∷ cs) same =
      sum_by-cons batches_opened b bs ∙ ap₂ ◌+◌ (ap (λ n. n - 1) (same_many b.boundaries c.boundaries same.0)) (same_sum bs cs same.2)
      ∙ sym (sum_by-cons batches_opened c cs)

  pub same_text_from : (before : ℕ) (several : Bool) (courses others : List Course) → AreSameCourses courses others
      → courses_text_from before fleet several courses ≡ courses_text_from before fleet several others
  same_text_from before several courses others same = ap₂ ◌++◌ (same_lines several before courses others same) (ap batches_line (same_sum courses others same))
