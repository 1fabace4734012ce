-- A session: lines of commands are answered as they come.
use Rattle.std.specs.Prelude.{◌≡◌, ◌⊎◌, ℕ, ◌+◌, ◌<◌, ◌≤◌, All, Bool, true, false, Option, List, [], ◌∷◌, ◌++◌, length, map}
use Rattle.std.specs.Io.KnownBytes.{Consumes, IsAtEnd}
use Rattle.bounded_io.specs.Reading.{max_input}
use Rattle.rehearse.specs.Histories.{HistoryView}
use Rattle.rehearse.specs.Replies.{Telling}
use Rattle.rehearse.specs.Answers.{LeadsTo, text_to}
use Rattle.rehearse.specs.Commands.{command_in, ends_session}
use Rattle.rehearse.specs.declared.fault.RehearseFault.{RehearseFault}
use Rattle.rehearse.specs.declared.fault.RehearseFault.TheVariants.{Refused, Memory, File, TooLarge, LongLine, Write}
use Rattle.rehearse.specs.Lines.{IsLine, IsLong, joined, last_line, max_line, max_read, without_return}

-- the text is the answers to these lines in their order, each from where the one before it led
abbrev pub Session : Telling → HistoryView → List (List ℕ) → List ℕ → HistoryView → Type 0
Session tell before [] text after = (text ≡ []) × (after ≡ before)
Session tell before (line ∷ lines) text after =
    (between : HistoryView) × (later : List ℕ) × LeadsTo before (command_in line) between × Session tell between lines later after
    × (text ≡ text_to tell before (command_in line) between ++ later)

-- the line, without the carriage return before its line feed, ends the session
abbrev pub quits : List ℕ → Bool
quits line = ends_session (command_in (without_return line))

-- the bytes are lines, each with its line feed, none of which ends the session, and a rest; the lines were answered, without the carriage returns before their line feeds
pub record Heard (tell : Telling) (before : HistoryView) (bytes rest text : List ℕ) (after : HistoryView) : Type 0 where
  pub lines : List (List ℕ)
  pub parts : bytes ≡ joined lines ++ rest
  pub are_lines : All IsLine lines
  pub resume : All (λ line. quits line ≡ false) lines
  pub answers : Session tell before (map without_return lines) text after

-- the reader gave bytes, of which so much was heard, and no more than one past the bound of an input
pub record IsHeard (tell : Telling) (before : HistoryView) (old new : Option (List ℕ)) (text : List ℕ) : Type 0 where
  pub bytes : List ℕ
  pub rest : List ℕ
  pub after : HistoryView
  pub consumed : Consumes old new bytes
  pub within : length bytes ≤ max_input + 1
  pub heard : Heard tell before bytes rest text after

-- all that the reader had was heard, and its last line too, which needs no line feed
pub record IsWhole (tell : Telling) (before after : HistoryView) (old new : Option (List ℕ)) (text : List ℕ) : Type 0 where
  pub bytes : List ℕ
  pub rest : List ℕ
  pub first : List ℕ
  pub between : HistoryView
  pub last : List ℕ
  pub consumed : Consumes old new bytes
  pub end : IsAtEnd new
  pub within : length bytes ≤ max_input
  pub heard : Heard tell before bytes rest first between
  pub line : IsLine rest
  pub last_answer : Session tell between (last_line rest) last after
  pub text_is : text ≡ first ++ last

-- a line ended the session: the lines before it were answered, and nothing more; of what stands behind it all came with its line feed, in a single read
pub record IsEndedByLine (tell : Telling) (before after : HistoryView) (old new : Option (List ℕ)) (text : List ℕ) : Type 0 where
  pub bytes : List ℕ
  pub line : List ℕ
  pub behind : List ℕ
  pub consumed : Consumes old new bytes
  pub heard : Heard tell before bytes (line ++ 10 ∷ behind) text after
  pub is_line : IsLine line
  pub is_quit : quits line ≡ true
  pub line_within : length bytes ≤ max_input + length behind
  pub within : length bytes ≤ max_input + 1
  pub one_read : length behind < max_read

-- the session is over: the reader had no more, or a line ended it
abbrev pub IsOver : Telling → HistoryView → HistoryView → Option (List ℕ) → Option (List ℕ) → List ℕ → Type 0
IsOver tell before after old new text = IsWhole tell before after old new text ⊎ IsEndedByLine tell before after old new text

-- a line, and the byte with which the commands have more bytes than an input has
pub record IsPastLine (rest : List ℕ) : Type 0 where
  pub line : List ℕ
  pub byte : ℕ
  pub rest_is : rest ≡ line ++ byte ∷ []
  pub is_line : IsLine line

-- the last line is too long by those of its bytes alone that are within the bound of an input
abbrev pub IsLongWithin : List ℕ → List ℕ → Type 0
IsLongWithin bytes rest = length bytes + max_line < max_input + length rest

-- when a fault ends a session, by the bytes that the reader gave, and by those of them that stand behind the last line that was answered
abbrev pub Ends : Bool → List ℕ → List ℕ → RehearseFault → Type 0
Ends is_reliable bytes rest File = (is_reliable ≡ false) × IsLine rest × (length bytes ≤ max_input)
Ends is_reliable bytes rest TooLarge = IsPastLine rest × (length bytes ≡ max_input + 1)
Ends is_reliable bytes rest LongLine = IsLong rest × IsLongWithin bytes rest × (length bytes ≤ max_input + 1)
Ends is_reliable bytes rest Memory = length bytes ≤ max_input + 1
Ends is_reliable bytes rest (Refused fault) = ⊥
Ends is_reliable bytes rest (Write fault) = ⊥

-- the fault ended the session when so much was heard
pub record IsEndedBy (tell : Telling) (is_reliable : Bool) (before : HistoryView) (old new : Option (List ℕ)) (text : List ℕ) (fault : RehearseFault) : Type 0 where
  pub bytes : List ℕ
  pub rest : List ℕ
  pub after : HistoryView
  pub consumed : Consumes old new bytes
  pub heard : Heard tell before bytes rest text after
  pub ends : Ends is_reliable bytes rest fault
