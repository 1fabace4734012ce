-- A plan as a text: lines of names, each a batch.
use Rattle.std.specs.Prelude.{ℕ, ◌+◌, Bool, false, not, ◌&&◌, ◌||◌, nat_eq, Option, Some, None, List, [], ◌∷◌, ◌++◌, codes, decimal, if◌then◌else◌}
use Rattle.std.specs.List.{list_all, slice_split, starts_with}
use Rattle.std.specs.Str.{bytes_eq}
use Rattle.group_tree.specs.Names.{Name, is_name}
use Rattle.rehearse.specs.Commands.{Word, words_of}
use Rattle.rehearse.specs.Lines.{is_feed, without_return}

-- the lines of a text; what stands behind the last line feed is a line too
abbrev pub lines_of : List ℕ → List (List ℕ)
lines_of text = slice_split is_feed text

-- its words, between blanks; a carriage return at its end doesn't count
abbrev pub words_in : List ℕ → List Word
words_in line = words_of (without_return line)

abbrev pub starts_number : Word → Bool
starts_number word = starts_with nat_eq word (codes "batches=")

-- `plan batches=..`, the first line that `plan` prints
abbrev pub is_heading : Word → List Word → Bool
is_heading word [] = false
is_heading word (second ∷ rest) = bytes_eq word (codes "plan") && starts_number second

-- `held: ..`, its last one
abbrev pub is_held : Word → Bool
is_held word = bytes_eq word (codes "held:")

-- what stands in a line of words behind so many batches says nothing of batches
abbrev pub is_passed : ℕ → Word → List Word → Bool
is_passed count word rest = is_held word || (nat_eq count 0 && is_heading word rest)

-- `I:`
abbrev pub label : ℕ → Word
label number = decimal number ++ codes ":"

-- the names of a line that is the batch of this number: `batch I:` may stand before them
abbrev pub names_in : ℕ → Word → List Word → List Name
names_in number word [] = word ∷ []
names_in number word (second ∷ rest) =
    if bytes_eq word (codes "batch") && bytes_eq second (label number) then rest else word ∷ second ∷ rest

-- the batch that a line of words says behind so many batches, if it says one
abbrev pub batch_in : ℕ → List Word → Option (List Name)
batch_in count [] = None
batch_in count (word ∷ rest) = if is_passed count word rest then None else Some (names_in (count + 1) word rest)

abbrev pub batch_of : ℕ → List ℕ → Option (List Name)
batch_of count line = batch_in count (words_in line)

abbrev pub one_batch : Option (List Name) → List (List Name)
one_batch None = []
one_batch (Some names) = names ∷ []

abbrev pub count_of : Option (List Name) → ℕ
count_of None = 0
count_of (Some names) = 1

-- the batches of lines that stand behind so many batches
abbrev pub batches_from : ℕ → List (List ℕ) → List (List Name)
batches_from count [] = []
batches_from count (line ∷ lines) = one_batch (batch_of count line) ++ batches_from (count + count_of (batch_of count line)) lines

-- the batches of a text
abbrev pub batches_of : List ℕ → List (List Name)
batches_of text = batches_from 0 (lines_of text)

-- something stands there that can't be a name
abbrev pub is_misnamed : Option (List Name) → Bool
is_misnamed None = false
is_misnamed (Some names) = not (list_all is_name names)

-- the number of the first such line, where the first of these has this number and stands behind so many batches
abbrev pub bad_from : ℕ → ℕ → List (List ℕ) → Option ℕ
bad_from number count [] = None
bad_from number count (line ∷ lines) =
    if is_misnamed (batch_of count line) then Some number else bad_from (number + 1) (count + count_of (batch_of count line)) lines

-- the number of the first line of a text that is none of a plan
abbrev pub bad_line : List ℕ → Option ℕ
bad_line text = bad_from 1 0 (lines_of text)
