-- Whether this process ignores the ends of its children.
use Rattle.std.specs.Prelude.{◌≡◌, ◌≢◌, ◌⊎◌, ℕ, ◌%◌, Bool, false, ◌&&◌, ◌||◌, ◌==◌, nat_lt, if◌then◌else◌, List, [], ◌∷◌, Option, Some, None, codes, take}
use Rattle.std.specs.List.{slice_get}
use Rattle.std.specs.Str.{bytes_eq}
use Rattle.bounded_io.specs.declared.input_fault.InputFault.{InputFault}
use Rattle.bounded_io.specs.declared.input_fault.InputFault.TheVariants.{Memory}
use Rattle.rollout.specs.Inputs.{IsFaultOfFile, IsTextOfFile}
use Rattle.rollout.specs.Systems.{Files}

-- where the system tells of this process
abbrev pub status_file : List ℕ
status_file = codes "/proc/self/status"

-- the hexadecimal digit stands for an odd number
abbrev pub is_odd_digit : ℕ → Bool
is_odd_digit digit = if nat_lt digit 97 then digit % 2 == 1 else digit % 2 == 0

abbrev pub is_odd_digit_in : Option ℕ → Bool
is_odd_digit_in None = false
is_odd_digit_in (Some digit) = is_odd_digit digit

abbrev pub is_odd_digit_at : List ℕ → ℕ → Bool
is_odd_digit_at text place = is_odd_digit_in (slice_get text place)

-- the text begins with a row of ignored signals whose twelfth digit of sixteen is odd: the lowest bit of it is that of signal 17
abbrev pub starts_ignored : List ℕ → Bool
starts_ignored text = bytes_eq (take 9 text) (codes "\nSigIgn:\t") && is_odd_digit_at text 20

-- such a row begins somewhere in the text
abbrev pub says_ignored : List ℕ → Bool
says_ignored [] = false
says_ignored (byte ∷ rest) = starts_ignored (byte ∷ rest) || says_ignored rest

-- the file was read, and it says so
pub record IsSaid (files : Files) (answer : Bool) : Type 0 where
  pub text : List ℕ
  pub is_text : IsTextOfFile (files status_file) text
  pub says : answer ≡ says_ignored text

-- the file could not be read, though memory was not wanting, and nothing is ignored then
pub record IsUnsaid (files : Files) (answer : Bool) : Type 0 where
  pub fault : InputFault
  pub unread : IsFaultOfFile (files status_file) fault
  pub because : fault ≢ Memory
  pub is : answer ≡ false

-- the answer is that of the system, as far as it gives one
abbrev pub IsAnswerOf : Files → Bool → Type 0
IsAnswerOf files answer = IsSaid files answer ⊎ IsUnsaid files answer
