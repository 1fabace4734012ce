-- What holds of every rehearsal.
use Rattle.std.specs.Prelude.{◌≡◌, ◌⊎◌, ℕ, ◌<◌, List, [], ◌∷◌}
use Rattle.group_tree.specs.declared.ids.HostId.{HostId}
use Rattle.fleet_states.specs.Batches.{Fails}
use Rattle.fleet_states.specs.Laws.{AgreeOn}
use Rattle.play_forecast.specs.Courses.{IsCourse, Setting, next_batch}
use Rattle.rehearse.specs.declared.stage.Stage.{Stage}
use Rattle.rehearse.specs.Stacks.{IsAdvanced, IsRehearsal, IsUndone, RehearsalView, Rules, boundaries_of, cap_at, fail_first, named_at, top}

-- a play by these rules, of any number of steps but none
pub record IsPlayBy (rules : Rules) (setting : Setting) : Type 0 where
  pub fleet_is : setting.fleet ≡ rules.fleet
  pub mode_is : setting.mode ≡ rules.mode
  pub caps_are : (opened : ℕ) → setting.caps opened ≡ cap_at rules.caps opened
  pub percentage_is : setting.percentage ≡ rules.percentage
  pub some_steps : 0 < setting.steps

-- of the batches by which the rehearsal advanced just the named hosts fail, at the first step; whatever other hosts do
abbrev pub FailAsNamed : Fails → Stage → List Stage → Type 0
FailAsNamed fails below [] = Unit {0}
FailAsNamed fails below (stage ∷ above) =
    AgreeOn (next_batch below.boundary.answer) fails (fail_first (named_at stage)) × FailAsNamed fails stage above

-- every play by its rules, in which the hosts fail that it named, goes the rehearsed way: to the same boundaries, and to the same end where it has come to one
abbrev pub Forecast : Type 0
Forecast =
    (rehearsal : RehearsalView) → IsRehearsal rehearsal → (setting : Setting) → IsPlayBy rehearsal.rules setting
    → FailAsNamed setting.fails rehearsal.first rehearsal.above → IsCourse setting rehearsal.opening (boundaries_of rehearsal) (top rehearsal).end

-- whoever undoes an advance has the rehearsal that was
abbrev pub UndoneIsAsBefore : Type 0
UndoneIsAsBefore = (named : List HostId) (old new back : RehearsalView) → IsAdvanced named old new → IsUndone new back → back ≡ old

-- an advance, or an undo of one
abbrev pub IsStep : RehearsalView → RehearsalView → Type 0
IsStep old new = ((named : List HostId) × IsAdvanced named old new) ⊎ IsUndone old new

-- the rehearsals to which steps lead, one after the other
abbrev pub AreSteps : RehearsalView → List RehearsalView → Type 0
AreSteps old [] = Unit {0}
AreSteps old (new ∷ rest) = IsStep old new × AreSteps new rest

-- the one to which the last of them leads
abbrev pub last_of : RehearsalView → List RehearsalView → RehearsalView
last_of old [] = old
last_of old (new ∷ rest) = last_of new rest

-- whoever undoes all advances is where the rehearsal began, whatever was advanced and undone in between
abbrev pub UndoneAllIsOpening : Type 0
UndoneAllIsOpening =
    (opening : RehearsalView) (views : List RehearsalView) → opening.above ≡ [] → AreSteps opening views → (last_of opening views).above ≡ [] → last_of opening views ≡ opening
