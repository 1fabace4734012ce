-- How many hosts a run works on at once, and the texts that name the number.
use Rattle.std.specs.Prelude.{ℕ, Bool, ◌&&◌, List, Option, Some, None, if◌then◌else◌, nat_le, nat_lt, codes, length}
use Rattle.std.specs.List.{list_all}
use Rattle.std.specs.Char.{digit_value}
use Rattle.std.specs.Str.Parse.{digits_value, without_leading_plus}

-- one decimal digit or more, and nothing else
abbrev pub is_number : List ℕ → Bool
is_number text = nat_lt 0 (length text) && list_all (λ digit. nat_lt (digit_value digit) 10) text

-- the number, where it is 1 to 64
abbrev pub in_range : ℕ → Option ℕ
in_range n = if nat_le 1 n && nat_le n 64 then Some n else None

-- the number that the text writes in decimal digits, behind a plus or not, where it is 1 to 64
abbrev pub forks_in : List ℕ → Option ℕ
forks_in text = if is_number (without_leading_plus text) then in_range (digits_value 10 (without_leading_plus text)) else None

-- the text that counts where no option says it
abbrev pub default_text : List ℕ
default_text = codes "5"
