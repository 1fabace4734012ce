-- What is given out at a terminal on which the one line is written over.
use Rattle.std.specs.Prelude.{ℕ, Bool, false, not, ◌&&◌, ◌||◌, is_some, if◌then◌else◌, Option, None, Some, List, [], ◌++◌}
use Rattle.run_progress.specs.StatusLines.{cleared_text, drawn_text}
use Rattle.run_progress.specs.declared.screen.Screen.{Screen}

-- nothing stands on it
abbrev pub blank : ℕ → Bool → Screen
blank width draws = record { width = width; draws = draws; is_drawn = false }

-- the one line is wiped away where it stands and something is told above it
abbrev pub wipes : Screen → Bool → Bool
wipes screen tells_above = screen.is_drawn && tells_above

abbrev pub wiped_text : Bool → List ℕ
wiped_text wipes = if wipes then cleared_text else []

-- the one line is drawn, where there is one
abbrev pub line_text : ℕ → Option (List ℕ) → List ℕ
line_text width None = []
line_text width (Some line) = drawn_text width line

-- the line is wiped away, something is told, and the line is drawn again
abbrev pub over_text : Bool → ℕ → Option (List ℕ) → List ℕ → List ℕ
over_text wipes width line above = wiped_text wipes ++ (above ++ line_text width line)

-- behind that the line stands there where it was drawn, and where it stood and wasn't wiped away
abbrev pub drawn_over : Bool → Option (List ℕ) → Screen → Screen
drawn_over wipes line screen = record screen { is_drawn = is_some line || (screen.is_drawn && not wipes) }
