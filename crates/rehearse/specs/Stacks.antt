-- What a rehearsal is: a stack of boundaries, each behind the batch of the one below it, in which the hosts that were named fail.
use Rattle.std.specs.Prelude.{◌≡◌, ℕ, ◌+◌, ◌-◌, Option, Some, None, List, [], ◌∷◌, ◌++◌, find, length, map, min, not, slice_index_or, take, if◌then◌else◌}
use Rattle.group_tree.specs.declared.ids.HostId.{HostId}
use Rattle.fleet_index.specs.NumberLists.{has_number}
use Rattle.domains.specs.FleetViews.{FleetView}
use Rattle.domains.specs.Ids.{host_numbers}
use Rattle.fleet_states.specs.declared.status.Status.{Status}
use Rattle.play_model.specs.declared.on_blocked.OnBlocked.{OnBlocked}
use Rattle.fleet_states.specs.Batches.{Fails}
use Rattle.play_forecast.specs.declared.boundary.Boundary.{Boundary}
use Rattle.play_forecast.specs.Courses.{IsBoundary, Setting, end_behind, end_here, next_batch, statuses_behind}
use Rattle.rehearse.specs.declared.stage.Stage.{Stage}

-- what stays the same throughout a rehearsal: the fleet, what is done with hosts that may not go down, the most hosts of the first batch, of the second and so on,
-- and how many of each hundred may fail
pub record Rules : Type 0 where
  pub fleet : FleetView
  pub mode : OnBlocked
  pub caps : List (Option ℕ)
  pub percentage : Option ℕ

-- the most hosts of the batch before which so many were opened; the last entry serves on
abbrev pub cap_at : List (Option ℕ) → ℕ → Option ℕ
cap_at caps opened = slice_index_or caps (min (length caps - 1) opened) None

-- just these hosts fail, at the first step
abbrev pub fail_first : List ℕ → Fails
fail_first named host = if has_number host named then Some 0 else None

-- a play of one step by these rules, at which just these hosts fail
abbrev pub where_fail : Rules → List ℕ → Setting
where_fail rules named =
    record { fleet = rules.fleet; mode = rules.mode; caps = cap_at rules.caps; percentage = rules.percentage; steps = 1; fails = fail_first named }

-- the first of these hosts that does not stand in the batch
abbrev pub first_outside : List ℕ → List HostId → Option HostId
first_outside batch named = find (λ host. not (has_number host.index batch)) named

-- the numbers of the hosts that were named when the rehearsal advanced to the stage
abbrev pub named_at : Stage → List ℕ
named_at stage = host_numbers stage.failing.items

-- the first stage: the statuses at the opening lead to its boundary, and nobody was named
pub record IsOpening (rules : Rules) (opening : List Status) (stage : Stage) : Type 0 where
  pub boundary_is : IsBoundary (where_fail rules []) 0 opening stage.boundary
  pub end_is : stage.end ≡ end_here None stage.boundary
  pub nobody : named_at stage ≡ []

-- the stage behind the batch of the one below it, before which so many batches were opened: the play had not ended, the hosts that were named stand in the batch, and just
-- they fail in it, at the first step
pub record IsBehind (rules : Rules) (opened : ℕ) (below stage : Stage) : Type 0 where
  pub went_on : below.end ≡ None
  pub in_batch : first_outside (next_batch below.boundary.answer) stage.failing.items ≡ None
  pub boundary_is : IsBoundary (where_fail rules (named_at stage)) (opened + 1) (statuses_behind (where_fail rules (named_at stage)) below.boundary) stage.boundary
  pub end_is : stage.end ≡ end_here (end_behind (where_fail rules (named_at stage)) below.boundary) stage.boundary

-- the stages above this one, each behind the one below it
abbrev pub AreAbove : Rules → ℕ → Stage → List Stage → Type 0
AreAbove rules opened below [] = Unit {0}
AreAbove rules opened below (stage ∷ above) = IsBehind rules opened below stage × AreAbove rules (opened + 1) stage above

-- the uppermost stage
abbrev pub top_of : Stage → List Stage → Stage
top_of below [] = below
top_of below (stage ∷ above) = top_of stage above

-- a rehearsal as contracts see it: its rules, the statuses at the opening, its first stage, and those above it, to which it advanced
pub record RehearsalView : Type 0 where
  pub rules : Rules
  pub opening : List Status
  pub first : Stage
  pub above : List Stage

-- where it stands
abbrev pub top : RehearsalView → Stage
top rehearsal = top_of rehearsal.first rehearsal.above

-- what holds of every rehearsal
pub record IsRehearsal (rehearsal : RehearsalView) : Type 0 where
  pub opens : IsOpening rehearsal.rules rehearsal.opening rehearsal.first
  pub stands : AreAbove rehearsal.rules 0 rehearsal.first rehearsal.above

-- a stage more
abbrev pub pushed : Stage → RehearsalView → RehearsalView
pushed stage rehearsal = record rehearsal { above = rehearsal.above ++ stage ∷ [] }

-- it advanced by one batch, in which just these hosts fail
pub record IsAdvanced (named : List HostId) (old new : RehearsalView) : Type 0 where
  pub stage : Stage
  pub named_are : stage.failing.items ≡ named
  pub behind : IsBehind old.rules (length old.above) (top old) stage
  pub grown : new ≡ pushed stage old

-- it went back by one batch: one stage is gone, and everything else is as it was
pub record IsUndone (old new : RehearsalView) : Type 0 where
  pub stage : Stage
  pub shrunk : old ≡ pushed stage new

-- the batches by which it advanced, the first one first
abbrev pub batches_to : Stage → List Stage → List (List ℕ)
batches_to below [] = []
batches_to below (stage ∷ above) = next_batch below.boundary.answer ∷ batches_to stage above

-- as it stood when it had advanced by so many batches
abbrev pub cut_to : ℕ → RehearsalView → RehearsalView
cut_to stages rehearsal = record rehearsal { above = take stages rehearsal.above }

-- all its boundaries, the first one first
abbrev pub boundaries_of : RehearsalView → List Boundary
boundaries_of rehearsal = rehearsal.first.boundary ∷ map (λ stage. stage.boundary) rehearsal.above
