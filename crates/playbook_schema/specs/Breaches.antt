-- The rules of a playbook, broken or still to be asked.
use Rattle.std.specs.Prelude.{ℕ, Bool, Option, Some, None, List, [], ◌++◌, map}
use Rattle.group_tree.specs.Names.{Name, is_among}
use Rattle.text_syntax.specs.Shapes.{Entry}
use Rattle.playbook_schema.specs.Paths.{Path}
pub use Rattle.text_syntax.specs.Breaches.{unless, joined, first_of}

-- a step's place: the number of its play, where the file has several, and its number in the play, each from 1
pub record Spot : Type 0 where
  pub play : Option ℕ
  pub step : ℕ

-- a rule that is broken: of a handler's name which, of braces in which step; others at which path, but for those of the whole text or document
pub data Breach : Type 0 where
  NotJson : Breach
  BadShape : Path → Breach
  UnknownKey : Path → Breach
  NoSuchHandler : Name → Breach
  TwiceHandler : Name → Breach
  BadSerial : Path → Breach
  BadPercent : Path → Breach
  ManyPlays : Breach
  TooManySteps : Breach
  BadBraces : Spot → Breach

-- what decides whether a document is accepted: a rule that it breaks, or a text, under a key of the step there, that has to
-- be a condition
pub data Check : Type 0 where
  Broken : Breach → Check
  Asked : Spot → Name → List ℕ → Check

-- seen from the top value, where it is seen from what stands at this path
abbrev pub breach_in : Path → Breach → Breach
breach_in at NotJson = NotJson
breach_in at (BadShape path) = BadShape (at ++ path)
breach_in at (UnknownKey path) = UnknownKey (at ++ path)
breach_in at (NoSuchHandler name) = NoSuchHandler name
breach_in at (TwiceHandler name) = TwiceHandler name
breach_in at (BadSerial path) = BadSerial (at ++ path)
breach_in at (BadPercent path) = BadPercent (at ++ path)
breach_in at ManyPlays = ManyPlays
breach_in at TooManySteps = TooManySteps
breach_in at (BadBraces spot) = BadBraces spot

abbrev pub check_in : Path → Check → Check
check_in at (Broken breach) = Broken (breach_in at breach)
check_in at (Asked spot key text) = Asked spot key text

abbrev pub all_in : Path → List Check → List Check
all_in at checks = map (check_in at) checks

-- what something says, where it is given
abbrev pub where_given : {T X : Type 0} → (T → List X) → Option T → List X
where_given list None = []
where_given list (Some value) = list value

abbrev pub is_known : List Name → Entry → Bool
is_known keys entry = is_among entry.name keys
