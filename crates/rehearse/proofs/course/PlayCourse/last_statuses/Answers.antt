use Rattle.std.proofs.Common.{◌-◌, List, length, slice_get, sym, ap, ◌∙◌}
use Rattle.std.specs.Prelude.{option_copied}
use Rattle.play_forecast.specs.declared.boundary.Boundary.{Boundary}
use Rattle.rehearse.proofs.CoursesLemmas.{last_is}
use Rattle.rehearse.proofs.course.PlayCourse.last_statuses.Goals as goal

pub returns-in-Some : goal.returns-in-Some
returns-in-Some c =
    c.as_slice.ensures.value
    ∙ last_is c.args.self.now.boundaries.items c.in-Some.boundary.now
    (ap (λ (l : List Boundary). slice_get l (length l - 1)) (sym c.deref.ensures.value) ∙ sym c.last.ensures.value ∙ ap option_copied c.in-Some.is)
