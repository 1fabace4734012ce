-- The words of a line, and the command that they say.
use Rattle.std.specs.Prelude.{ℕ, Bool, true, false, ◌||◌, ◌==◌, Option, Some, None, option_and_then, List, [], ◌∷◌, codes, filter, nat_lt, if◌then◌else◌}
use Rattle.std.specs.List.{slice_split}
use Rattle.std.specs.Str.{bytes_eq, is_utf8}
use Rattle.text_syntax.specs.Numerals.{number_in_digits}
use Rattle.text_syntax.specs.Patterns.{is_filled}

abbrev pub Word : Type 0
Word = List ℕ

-- a space or a tab, which stand between words
abbrev pub is_blank : ℕ → Bool
is_blank byte = byte == 32 || byte == 9

-- the pieces between blanks, without the empty ones
abbrev pub words_of : List ℕ → List Word
words_of line = filter is_filled (slice_split is_blank line)

-- what a line asks for: nothing; to go on by a batch in which the hosts of these names fail too; to go on by so many batches; to go on to the end of the play; to mark the host of
-- this name, which then fails when its batch comes; to take the last of these back; the plan; the hosts and the end; the hosts of the group of this name; the list of commands; the
-- end of the session; or anything else
pub data Command : Type 0 where
  nothing : Command
  advance : List Word → Command
  next : ℕ → Command
  finish : Command
  fail : Word → Command
  undo : Command
  plan : Command
  show : Command
  hosts : Word → Command
  help : Command
  quit : Command
  unknown : Command

-- nothing stands behind the command
abbrev pub alone : Command → List Word → Command
alone command [] = command
alone command (word ∷ rest) = unknown

-- just the name of a group stands behind `hosts`
abbrev pub hosts_of : List Word → Command
hosts_of [] = unknown
hosts_of (group ∷ rest) = alone (hosts group) rest

-- just the name of a host stands behind `fail`
abbrev pub fail_of : List Word → Command
fail_of [] = unknown
fail_of (host ∷ rest) = alone (fail host) rest

-- a number that isn't nought
abbrev pub some_number : ℕ → Option ℕ
some_number count = if nat_lt 0 count then Some count else None

-- the number from 1 to 65,535 that a word of one to five digits says
abbrev pub number_in : Word → Option ℕ
number_in word = if is_utf8 word then option_and_then some_number (number_in_digits 5 65535 word) else None

-- just a number of batches stands behind `next`
abbrev pub next_by : Option ℕ → List Word → Command
next_by (Some count) rest = alone (next count) rest
next_by None rest = unknown

abbrev pub next_of : List Word → Command
next_of [] = unknown
next_of (word ∷ rest) = next_by (number_in word) rest

-- the command of words
abbrev pub command_of : List Word → Command
command_of [] = nothing
command_of (word ∷ rest) =
    if bytes_eq word (codes "advance") then advance rest
    else (if bytes_eq word (codes "next") then next_of rest
    else (if bytes_eq word (codes "finish") then alone finish rest
    else (if bytes_eq word (codes "fail") then fail_of rest
    else (if bytes_eq word (codes "undo") then alone undo rest
    else (if bytes_eq word (codes "plan") then alone plan rest
    else (if bytes_eq word (codes "show") then alone show rest
    else (if bytes_eq word (codes "hosts") then hosts_of rest
    else (if bytes_eq word (codes "help") || bytes_eq word (codes "?") then alone help rest
    else (if bytes_eq word (codes "quit") then alone quit rest else unknown)))))))))

-- the command of a line
abbrev pub command_in : List ℕ → Command
command_in line = command_of (words_of line)

-- the session ends behind the command
abbrev pub ends_session : Command → Bool
ends_session nothing = false
ends_session (advance names) = false
ends_session (next count) = false
ends_session finish = false
ends_session (fail host) = false
ends_session undo = false
ends_session plan = false
ends_session show = false
ends_session (hosts group) = false
ends_session help = false
ends_session quit = true
ends_session unknown = false
