use Rattle.std.proofs.Common.{◌≡◌, ◌++◌, ℕ, Bool, List, Some, codes, sym, ap, ◌∙◌, subst, []}
use Rattle.bounded_io.specs.Writing.{Writes}
use Rattle.play_forecast.specs.declared.boundary.Boundary.{Boundary}
use Rattle.recap.specs.LimitsText.{field_text}
use Rattle.recap.specs.RecapText.{boundary_lines, end_line, host_lines}
use Rattle.rehearse.specs.CourseSteps.{course_of}
use Rattle.rehearse.specs.CourseTexts.{batches_opened, course_lines, numbered}
use Rattle.rehearse.proofs.CoursesLemmas.{without_hosts}
use Rattle.rehearse.proofs.printing.write_course.Goals as goal

pub returns-then-several : goal.returns-then-several
returns-then-several g c =
    let fleet = c.args.fleet.now in
    let course = course_of c.args.course.now in
    let rest : List ℕ = host_lines fleet [] [] ++ end_line fleet (Some course.end) in
    let lines = ap (λ (n : ℕ). boundary_lines fleet n c.as_slice.result.now ++ rest) c.batches.ensures
    ∙ ap (λ (l : List Boundary). boundary_lines fleet (batches_opened course) l ++ rest) c.as_slice.ensures.value ∙ without_hosts fleet course in
    let text = ap (λ (l : List ℕ). field_text (codes "play ") c.args.number ++ (codes "\n" ++ l)) lines
    ∙ ap (λ (b : Bool). numbered b c.args.number (course_lines fleet course)) (sym c.if-several.true) in
    subst (λ (l : List ℕ). Writes g.W.Write.contents c.args.text.now c.write_numbered.new.text l) text c.write_numbered.ensures

pub returns-else-several : goal.returns-else-several
returns-else-several g c =
    let fleet = c.args.fleet.now in
    let course = course_of c.args.course.now in
    let rest : List ℕ = host_lines fleet [] [] ++ end_line fleet (Some course.end) in
    let lines = ap (λ (n : ℕ). boundary_lines fleet n c.as_slice.result.now ++ rest) c.batches.ensures
    ∙ ap (λ (l : List Boundary). boundary_lines fleet (batches_opened course) l ++ rest) c.as_slice.ensures.value ∙ without_hosts fleet course in
    let text = lines ∙ ap (λ (b : Bool). numbered b c.args.number (course_lines fleet course)) (sym c.if-several.false) in
    subst (λ (l : List ℕ). Writes g.W.Write.contents c.args.text.now c.write_play.new.text l) text c.write_play.ensures
