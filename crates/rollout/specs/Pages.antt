-- What the command `explain` does. What an entry says behind its word is shown by a script.
use Rattle.std.specs.Prelude.{◌≡◌, ◌⊎◌, true, false, ℕ, List, Option, Result, Err}
use Rattle.std.specs.Io.KnownBytes.{Keeps}
use Rattle.command_line.specs.declared.option_conflict.OptionConflict.TheVariants.{NoEntry}
use Rattle.command_line.specs.declared.fault.LineFault.TheVariants.{Apart}
use Rattle.hints.specs.Entries.{IsEntryOf}
use Rattle.hints.specs.Listed.{has_entry}
use Rattle.rollout.specs.Commands.{Prints}
use Rattle.rollout.specs.declared.fault.Fault.{Fault}
use Rattle.rollout.specs.declared.fault.Fault.TheVariants.{Line}
use Rattle.rollout.specs.declared.status.Status.{Status}

-- the word has an entry, and an entry of it went out, or broke off where the fault says
pub record PrintsEntry (word : List ℕ) (old new : Option (List ℕ)) (result : Result Status Fault) : Type 0 where
  pub entry : List ℕ
  pub listed : has_entry word ≡ true
  pub is : IsEntryOf word entry
  pub prints : Prints entry old new result

-- the word has none: the words are a bad line, and nothing went out
pub record HasNoEntry (word : List ℕ) (old new : Option (List ℕ)) (result : Result Status Fault) : Type 0 where
  pub unlisted : has_entry word ≡ false
  pub is : result ≡ Err (Line (Apart NoEntry))
  pub unwritten : Keeps old new

abbrev pub Explains : List ℕ → Option (List ℕ) → Option (List ℕ) → Result Status Fault → Type 0
Explains word old new result = PrintsEntry word old new result ⊎ HasNoEntry word old new result
