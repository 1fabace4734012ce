-- What reading a playbook promises.
use Rattle.std.specs.Prelude.{◌≡◌, ℕ, ◌⊎◌, ◌++◌, false, Some, List, [], ◌∷◌, length, string_bytes, IsUtf8, ⊤, MatchOption}
use Rattle.std.specs.List.{AllZip}
use Rattle.serde_json.specs.Data.{Data}
use Rattle.serde_json.specs.Read.{read}
use Rattle.text_syntax.specs.Texts.{BreaksFirst, IsNoJson}
use Rattle.play_model.specs.declared.play.Play.{Play}
use Rattle.play_model.specs.declared.step.Step.{Step}
use Rattle.playbook_schema.specs.Breaches.{Check, NotJson}
use Rattle.playbook_schema.specs.Plays.{WrittenPlay, checks, plays_of}
use Rattle.playbook_schema.specs.Steps.{WrittenStep}
use Rattle.playbook_schema.specs.Checks.{Named, rule, AllKept, IsFirst}
use Rattle.playbook_schema.specs.Faults.{named_of}
use Rattle.playbook_schema.specs.Told.{Tells}
use Rattle.playbook_schema.specs.ToldFaults.{AreTold, is_empty}
use Rattle.playbook_schema.specs.declared.fault.PlayFault.{PlayFault}
use Rattle.playbook_schema.specs.declared.told.Told.{Told}
use Rattle.play_read.specs.Readings.{IsStep}

-- a step for each that is written, in the order in which they are written
abbrev pub AreSteps : List WrittenStep → List Step → Type 0
AreSteps written steps = AllZip IsStep written steps

-- the play is the written one; its steps are the tasks and then the handlers
pub record IsPlay (written : WrittenPlay) (play : Play) : Type 0 where
  pub pattern : string_bytes play.pattern ≡ written.pattern
  pub sizes : play.sizes.items ≡ written.sizes
  pub max_fail : play.max_fail ≡ written.max_fail
  pub on_blocked : play.on_blocked ≡ written.on_blocked
  pub tasks : play.tasks ≡ length written.tasks
  pub steps : AreSteps (written.tasks ++ written.handlers) play.steps.items

-- the text is UTF-8 JSON, all that its value has to keep is kept, and the plays are those that the value says; it may say
-- so many
pub record IsReadAs (most : ℕ) (text : List ℕ) (plays : List Play) : Type 0 where
  pub utf8 : IsUtf8 text
  pub document : Data
  pub reads : read text ≡ Some document
  pub keeps_all : AllKept (checks most document)
  pub says : AllZip IsPlay (plays_of document) plays

-- it names the first check of the document that is not kept
abbrev pub IsFirstOf : ℕ → Data → Named → Type 0
IsFirstOf most document named = IsFirst named (checks most document)

-- the fault names the first check of the text that is not kept, or want of memory
abbrev pub IsTrueOf : ℕ → List ℕ → PlayFault → Type 0
IsTrueOf most text fault = MatchOption (named_of fault) ⊤ (BreaksFirst (rule NotJson) (IsFirstOf most) text)

-- what is told of a text that may say so many plays: that it is no JSON, and that alone, or all that its document has to keep
-- and doesn't
abbrev pub AreAllOf : ℕ → List ℕ → List Named → Type 0
AreAllOf plays text named =
    ((named ≡ rule NotJson ∷ []) × IsNoJson text) ⊎ ((document : Data) × IsUtf8 text × (read text ≡ Some document) × Tells (checks plays document) named)

-- the first of all that is told of the text, at most so many, and how many more there are
pub record AreToldOf (plays : ℕ) (text : List ℕ) (most : ℕ) (told : Told) : Type 0 where
  pub named : List Named
  pub all : AreAllOf plays text named
  pub are_told : AreTold most named told

-- the same of checks that aren't all kept
pub record AreToldBy (checks : List Check) (most : ℕ) (told : Told) : Type 0 where
  pub named : List Named
  pub tells : Tells checks named
  pub are_told : AreTold most named told
  pub some : is_empty told ≡ false

-- and of a text that doesn't keep all
pub record AreFaultsOf (plays : ℕ) (text : List ℕ) (most : ℕ) (told : Told) : Type 0 where
  pub are_told : AreToldOf plays text most told
  pub some : is_empty told ≡ false
