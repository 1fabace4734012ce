-- What the steps of an advance have to give.
use Rattle.std.specs.Prelude.{◌≡◌, ℕ, ◌<◌, Option, List, length}
use Rattle.fleet_states.specs.declared.status.Status.{Status}
use Rattle.fleet_states.specs.Batches.{Fails, failed_in, fails_in, halt, statuses_after}
use Rattle.play_forecast.specs.declared.boundary.Boundary.{Boundary}
use Rattle.play_forecast.specs.declared.end.End.{End}
use Rattle.play_forecast.specs.Courses.{end_with, next_batch}
use Rattle.rehearse.specs.Stacks.{fail_first}

-- for each of so many hosts the step that fails on it: the first one for those that were named
pub record AreFirstSteps (hosts : ℕ) (named : List ℕ) (failing : List (Option ℕ)) : Type 0 where
  pub all : length failing ≡ hosts
  pub each : (host : ℕ) → host < hosts → fails_in failing host ≡ fail_first named host

-- the halt of the boundary's batch whose hosts fail so, where it has so many steps
abbrev pub halt_by : Fails → Option ℕ → ℕ → Boundary → Option ℕ
halt_by fails percentage steps boundary = halt fails (next_batch boundary.answer) percentage steps

-- the statuses behind the batch, and how it ends the play, if it does
pub record IsEndOfBatch (fails : Fails) (percentage : Option ℕ) (steps : ℕ) (boundary : Boundary) (statuses : List Status) (end : Option End) : Type 0 where
  pub statuses_are : statuses ≡ statuses_after (halt_by fails percentage steps boundary) fails (next_batch boundary.answer) boundary.statuses.items
  pub end_is : end ≡ end_with (halt_by fails percentage steps boundary) (failed_in fails (next_batch boundary.answer) (halt_by fails percentage steps boundary)) (length (next_batch boundary.answer))
