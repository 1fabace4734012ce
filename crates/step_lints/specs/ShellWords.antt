-- Words that mean something to a shell alone.
use Rattle.std.specs.Prelude.{ℕ, Bool, true, false, not, ◌==◌, ◌&&◌, ◌||◌, nat_le, if◌then◌else◌, Option, None, Some, option_map, List, [], ◌∷◌, codes, slice_index}
use Rattle.group_tree.specs.Names.{Name, is_among}
use Rattle.text_syntax.specs.Words.{is_letter, starts}
use Rattle.play_model.specs.declared.step.Step.{Step}
use Rattle.inventory_lints.specs.Holes.{has_behind}
use Rattle.lint_rules.specs.Notes.{Note, shell_word}
use Rattle.step_lints.specs.Programs.{calls_ssh}
use Rattle.step_lints.specs.Quoting.{has_blank, is_script_option}
use Rattle.lint_rules.specs.declared.step_path.StepPath.{StepPath}

-- what a shell would not pass on as it is
abbrev pub shell_signs : List Name
shell_signs =
    codes "|" ∷ codes "||" ∷ codes "&" ∷ codes "&&" ∷ codes ";" ∷ codes ">" ∷ codes ">>" ∷ codes "<" ∷ codes "2>&1" ∷ []

unfoldable pub is_shell_sign : Name → Bool
is_shell_sign word = is_among word shell_signs

abbrev pub is_capital : ℕ → Bool
is_capital byte = nat_le 65 byte && nat_le byte 90

-- `$` in front of a name, of a name in braces, or of a command in round brackets; in a word with blanks of three capital letters, since other programs have their own `$`, as `awk` has `$NF`
abbrev pub is_expansion : Bool → Name → Bool
is_expansion spaced word =
    slice_index word 0 == 36
    && (if spaced then is_capital (slice_index word 1) && (is_capital (slice_index word 2) && is_capital (slice_index word 3))
    else is_letter (slice_index word 1) || slice_index word 1 == 40 || (slice_index word 1 == 123 && is_letter (slice_index word 2)))

abbrev pub has_expansion : Bool → Name → Bool
has_expansion spaced = has_behind (is_expansion spaced)

-- A shell would put something else in place of a part of the word: such a value, or a home at `~/` in front. Behind an option for a script a word with blanks is one.
abbrev pub is_expanded : Bool → Name → Bool
is_expanded scripted word = if has_blank word then not scripted && has_expansion true word else has_expansion false word || starts 126 47 word

abbrev pub is_shell_word : Bool → Name → Bool
is_shell_word scripted word = is_shell_sign word || is_expanded scripted word

-- the first such of the words that follow this one
abbrev pub first_behind : Name → List Name → Option Name
first_behind before [] = None
first_behind before (word ∷ words) = if is_shell_word (is_script_option before) word then Some word else first_behind word words

-- behind the program
abbrev pub first_shell_word : List Name → Option Name
first_shell_word [] = None
first_shell_word (program ∷ words) = first_behind program words

-- behind `ssh` a shell at the other end reads them
abbrev pub shell_note : StepPath → Step → Option Note
shell_note at step = if calls_ssh step.words then None else option_map (shell_word at) (first_shell_word step.words)
