-- What a run says of the names that were told as missed.
use Rattle.std.specs.Prelude.{◌≡◌, ◌⊎◌, true, false, is_some, Some, None, List}
use Rattle.group_tree.specs.Names.{Name, is_among}
use Rattle.play_model.specs.Results.{Row}
use Rattle.play_model.specs.declared.step.Step.{Step}
use Rattle.host_track.specs.Hosts.{Known}
use Rattle.host_track.specs.Asking.{asks, job, settled}
use Rattle.host_track.specs.Endings as ending
use Rattle.host_track.specs.Endings.{Ending}
use Rattle.host_track.specs.Undefined.{undefined_in}
use Rattle.undefined_names.specs.UndefinedReads.{is_skipped, missed_names, outset_of}
use Rattle.undefined_names.specs.EarlierSteps.{EarlierSteps, is_registered}

-- The host behind what has run, by what was known of it at the start: results that stood there stay, those of the sure steps are there, and no others came than those of steps that may have run.
pub record Follows (past : EarlierSteps) (start known : Known) : Type 0 where
  pub variables : known.variables ≡ start.variables
  pub kept : (name : Name) → is_some (start.results name) ≡ true → is_some (known.results name) ≡ true
  pub sure : (name : Name) → is_registered past.sure name ≡ true → is_some (known.results name) ≡ true
  pub others : (name : Name) → is_registered past.may name ≡ false → is_registered past.sure name ≡ false → start.results name ≡ None → known.results name ≡ None

-- its result has no return code, since its program didn't run
pub record LacksCode (known : Known) (name : Name) : Type 0 where
  pub row : Row
  pub has : known.results name ≡ Some row
  pub lacks : row.rc ≡ None

-- the name was told, or it is that of a result without a return code
abbrev pub IsTold : EarlierSteps → Known → Known → Step → Name → Type 0
IsTold past start known step name =
    (is_among name (missed_names (outset_of past start) step) ≡ true) ⊎ LacksCode known name

-- for want of no other name a step ends before its program
abbrev pub AsksForToldNames : Type 0
AsksForToldNames =
    (past : EarlierSteps) (start known : Known) (step : Step) (name : Name) → Follows past start known → asks known step ≡ settled (ending.undefined name)
    → IsTold past start known step name

-- nor do `changed_when` and `failed_when` want any other of a program that ended
abbrev pub JudgesByToldNames : Type 0
JudgesByToldNames =
    (past : EarlierSteps) (start known : Known) (step : Step) (words : List Name) (given : Ending) (name : Name) → Follows past start known → asks known step ≡ job words
    → undefined_in known step given ≡ Some name → IsTold past start known step name

-- a step that was known to be skipped runs no program
abbrev pub SkippedStepsRunNothing : Type 0
SkippedStepsRunNothing =
    (past : EarlierSteps) (start known : Known) (step : Step) (words : List Name) → Follows past start known → is_skipped (outset_of past start) step ≡ true → asks known step ≡ job words → ⊥
