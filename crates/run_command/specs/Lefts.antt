-- How many logs a history has behind those of the rolls before some runs.
use Rattle.std.specs.Prelude.{◌≡◌, ◌⊎◌, ℕ, ◌+◌, List, length}
use Rattle.event_log.specs.Events.{Event}
use Rattle.roll_run.specs.declared.run.Run.{Run}

-- one of each run
abbrev pub EndsWithDone : ℕ → List Run → List (List Event) → Type 0
EndsWithDone rolls done history = length history ≡ rolls + length done

-- one of each that came to its end, and one more where the run that was broken off behind them was begun
abbrev pub EndsWithBroken : ℕ → List Run → List (List Event) → Type 0
EndsWithBroken rolls done history = EndsWithDone rolls done history ⊎ (length history ≡ rolls + length done + 1)
