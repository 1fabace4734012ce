-- The first name that a step of a file looks up in vain.
use Rattle.std.specs.Prelude.{◌≡◌, ℕ, ◌+◌, nat_lt, if◌then◌else◌, Option, Some, None, List, [], ◌∷◌, ◌++◌, flat_map, length, map, string_bytes}
use Rattle.domains.specs.FleetViews.{FleetView}
use Rattle.domains.specs.Numbered.{host_at}
use Rattle.group_tree.specs.Names.{Name}
use Rattle.host_vars.specs.Layers.{HostView}
use Rattle.play_model.specs.declared.play.Play.{Play}
use Rattle.command_preview.specs.Lines.{fresh, hosts_of, view_at}
use Rattle.command_preview.specs.WordTexts.{AreRead}
use Rattle.undefined_names.specs.Spots.{missed_at}
use Rattle.undefined_names.specs.declared.undefined_read.UndefinedRead as found
use Rattle.undefined_names.specs.declared.no_value.NoValue.{NoValue}

-- a name that a step may look up in vain on a host; plays and their steps are numbered from 1
pub record UndefinedRead : Type 0 where
  pub play : ℕ
  pub step : ℕ
  pub host : Name
  pub name : Name

-- what each entry of a list gives, one behind the other, where the first stands at this place
abbrev pub all_given : {X Y : Type 0} → (ℕ → X → List Y) → ℕ → List X → List Y
all_given gives place [] = []
all_given gives place (x ∷ xs) = gives place x ++ all_given gives (place + 1) xs

-- of the step at this place of the play with this number, both from 0, on a host
abbrev pub misses_on : FleetView → List HostView → List Play → ℕ → ℕ → ℕ → List UndefinedRead
misses_on fleet views plays number place host =
    map (λ name. record { play = number + 1; step = place + 1; host = host_at fleet.hosts host; name = name })
    (missed_at fleet plays number place host (fresh (view_at views host)))

-- on the hosts that wait for the play, by name
abbrev pub misses_of_step : FleetView → List HostView → List Play → ℕ → Play → ℕ → List UndefinedRead
misses_of_step fleet views plays number play place = flat_map (misses_on fleet views plays number place) (hosts_of fleet play)

abbrev pub misses_of_play : FleetView → List HostView → List Play → ℕ → Play → List UndefinedRead
misses_of_play fleet views plays number play =
    all_given (λ place step. misses_of_step fleet views plays number play place) 0 play.steps.items

-- in the order of the plays and of their steps, tasks and then handlers
abbrev pub misses_of_plays : FleetView → List HostView → List Play → List UndefinedRead
misses_of_plays fleet views plays = all_given (misses_of_play fleet views plays) 0 plays

abbrev pub first_of : {X : Type 0} → List X → Option X
first_of [] = None
first_of (x ∷ xs) = Some x

-- what is found of it
abbrev pub miss_seen : FleetView → found.UndefinedRead → UndefinedRead
miss_seen fleet miss = record { play = miss.play; step = miss.step; host = host_at fleet.hosts miss.host.index; name = miss.name.now }

-- the number of a play is told where the file has several
abbrev pub play_told : ℕ → ℕ → Option ℕ
play_told plays number = if nat_lt 1 plays then Some number else None

-- what is told of a miss, in a file of so many plays
pub record Tells (plays : ℕ) (miss : UndefinedRead) (told : NoValue) : Type 0 where
  pub play : told.play ≡ play_told plays miss.play
  pub step : told.step ≡ miss.step
  pub host : string_bytes told.host ≡ miss.host
  pub name : string_bytes told.name ≡ miss.name

-- nothing is told where nothing is missed, and else the first that is
abbrev pub TellsFirst : ℕ → List UndefinedRead → Option NoValue → Type 0
TellsFirst plays misses None = misses ≡ []
TellsFirst plays misses (Some told) = (miss : UndefinedRead) × (first_of misses ≡ Some miss) × Tells plays miss told

-- the texts are accepted, and this is told of what they say
pub record IsFirstMiss (inventory playbook : List ℕ) (told : Option NoValue) : Type 0 where
  pub fleet : FleetView
  pub views : List HostView
  pub plays : List Play
  pub read : AreRead inventory playbook fleet views plays
  pub tells : TellsFirst (length plays) (misses_of_plays fleet views plays) told
