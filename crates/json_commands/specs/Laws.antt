-- What holds of the objects that are written of texts.
use Rattle.std.specs.Prelude.{◌≡◌, ℕ, List}
use Rattle.plan_command.specs.declared.end.End.{End}
use Rattle.rehearse.specs.declared.course_end.CourseEnd.{CourseEnd}
use Rattle.json_commands.specs.CourseTexts.{IsCourseJson}
use Rattle.json_commands.specs.PlanTexts.{IsPlanJson}

-- an inventory's text and a playbook's have one plan at most as JSON, and one end
abbrev pub OnePlanJson : Type 0
OnePlanJson =
    (inventory playbook text other : List ℕ) (end otherwise : End) → IsPlanJson inventory playbook text end → IsPlanJson inventory playbook other otherwise
    → (text ≡ other) × (end ≡ otherwise)

-- with the names of failing hosts they have one text of courses at most, and one end
abbrev pub OneCourseJson : Type 0
OneCourseJson =
    (inventory playbook failing text other : List ℕ) (end otherwise : CourseEnd) → IsCourseJson inventory playbook failing text end → IsCourseJson inventory playbook failing other otherwise
    → (text ≡ other) × (end ≡ otherwise)
