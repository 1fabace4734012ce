-- What holds of every course.
use Rattle.std.specs.Prelude.{◌≡◌, ℕ, List}
use Rattle.rehearse.specs.CourseTexts.{IsCourseText}
use Rattle.rehearse.specs.declared.course_end.CourseEnd.{CourseEnd}

-- an inventory's text, a playbook's and the names of failing hosts have one text of a course at most, and one end
abbrev pub OneCourseText : Type 0
OneCourseText =
    (inventory playbook failing text other : List ℕ) (end otherwise : CourseEnd) → IsCourseText inventory playbook failing text end → IsCourseText inventory playbook failing other otherwise
    → (text ≡ other) × (end ≡ otherwise)
