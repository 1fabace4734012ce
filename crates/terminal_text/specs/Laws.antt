-- What holds of strings that are shown.
use Rattle.std.specs.Prelude.{◌≡◌, ℕ, Some, List, codes}
use Rattle.terminal_text.specs.JsonReading.{lines_said, string_said}
use Rattle.terminal_text.specs.Texts.{escaped_text, lines_text, shown_text}

-- a JSON string on one line says what is shown of its string there
abbrev pub LineSaysWhatIsShown : Type 0
LineSaysWhatIsShown = (bytes : List ℕ) → string_said (escaped_text (codes "?") bytes) ≡ Some (shown_text bytes)

-- one of several lines says what is shown of it on lines of its own
abbrev pub TextSaysWhatIsShown : Type 0
TextSaysWhatIsShown = (bytes : List ℕ) → string_said (escaped_text (codes "\\n") bytes) ≡ Some (lines_text bytes)

-- so does one whose lines are the strings of an array
abbrev pub LinesSayWhatIsShown : Type 0
LinesSayWhatIsShown = (bytes : List ℕ) → lines_said (escaped_text (codes "\",\"") bytes) ≡ Some (lines_text bytes)
