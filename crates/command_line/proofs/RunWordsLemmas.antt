-- The words of a run without their option, operand by operand.
use Rattle.std.proofs.Common.{◌≡◌, Bool, true, false, cond, List, [], ◌∷◌, Option, Some, None, refl, sym, ap, subst, ◌∙◌, option_map}
use Rattle.std.specs.Option.{option_map_or}
use Rattle.std.specs.Str.{bytes_eq}
use Rattle.std.proofs.lemmas.Slice.Eq.{bytes_eq-Decides}
use Rattle.command_line.specs.Operands.{Word, dashes, is_operand, lone_operand, only_word}
use Rattle.command_line.specs.Runs.{leading_option, one_and_value, no_operand, two_and_value, without_option}
use Rattle.command_line.proofs.AcceptedLemmas.{value_of_operand}

-- the words of which the first begins no option
left_by : (word : Word) (words : List Word) (dash : Bool) → leading_option (word ∷ words) ≡ None → bytes_eq word dashes ≡ dash
    → without_option (word ∷ words) ≡ cond dash (word ∷ words, None) (word ∷ (without_option words).0, (without_option words).1)
left_by word words dash none same =
    let end = cond (bytes_eq word dashes) (word ∷ words, None) (word ∷ (without_option words).0, (without_option words).1) in
    ap (λ found. option_map_or (λ (p : Word × List Word). (p.1, Some p.0)) found end) none
    ∙ ap (λ b. cond b (word ∷ words, None) (word ∷ (without_option words).0, (without_option words).1)) same

-- the word that ends options ends them
pub left_at_dashes : (word : Word) (words : List Word) → leading_option (word ∷ words) ≡ None → bytes_eq word dashes ≡ true → without_option (word ∷ words) ≡ (word ∷ words, None)
left_at_dashes word words none same = left_by word words true none same

-- any other word stays before those that are left of the others
pub left_behind : (word : Word) (words : List Word) → leading_option (word ∷ words) ≡ None → bytes_eq word dashes ≡ false
    → without_option (word ∷ words) ≡ (word ∷ (without_option words).0, (without_option words).1)
left_behind word words none same = left_by word words false none same

pub operand_is_no_end : (word : Word) → is_operand word ≡ true → bytes_eq word dashes ≡ false
operand_is_no_end word plain = (value_of_operand word plain).no_end

-- an operand is the only one where no other is left
pub alone : (word : Word) (rest : List Word) (value : Option Word) (found : Option (Option Word)) → is_operand word ≡ true → found ≡ no_operand (rest, value)
    → option_map (λ v. (word, v)) found ≡ one_and_value (word ∷ rest, value)
alone word [] value found plain same = rw (plain, same) refl
alone word (second ∷ []) value found plain same = rw (operand_is_no_end word plain, plain, same) (go (bytes_eq second dashes))
  where
    go : (end : Bool) → option_map {U = Word × Option Word} (λ v. (word, v)) (cond end (Some value) None) ≡ option_map (λ w. (w, value)) (cond end (Some word) None)
    go true = refl
    go false = refl
alone word (second ∷ third ∷ more) value found plain same = rw same refl

pub not_alone : (word : Word) (rest : List Word) (value : Option Word) → bytes_eq word dashes ≡ false → is_operand word ≡ false → None ≡ one_and_value (word ∷ rest, value)
not_alone word [] value no_end plain = rw plain refl
not_alone word (second ∷ []) value no_end plain = rw (no_end, plain) (go (bytes_eq second dashes))
  where
    go : (end : Bool) → ◌≡◌ {A = Option (Word × Option Word)} None (option_map (λ w. (w, value)) (cond end None None))
    go true = refl
    go false = refl
not_alone word (second ∷ third ∷ more) value no_end plain = refl

pub at_dashes : (word : Word) (rest : List Word) → bytes_eq word dashes ≡ true → only_word rest ≡ lone_operand (word ∷ rest)
at_dashes word [] same = subst (λ w. None ≡ lone_operand (w ∷ [])) (sym ((bytes_eq-Decides word dashes).0 same)) refl
at_dashes word (second ∷ []) same = rw same refl
at_dashes word (second ∷ third ∷ more) same = refl

-- a first operand, with the only operand of the other words
pub first_of_two : (word : Word) (left : List Word × Option Word) (found : Option (Word × Option Word)) → is_operand word ≡ true → found ≡ one_and_value left
    → option_map (λ other. (word, other.0, other.1)) found ≡ two_and_value (word ∷ left.0, left.1)
first_of_two word left found plain same = rw (operand_is_no_end word plain, plain, same) (go (lone_operand left.0))
  where
    go : (o : Option Word) → option_map {U = Word × Word × Option Word} (λ other. (word, other.0, other.1)) (option_map {U = Word × Option Word} (λ w. (w, left.1)) o) ≡ option_map (λ files. (files.0, files.1, left.1)) (option_map {U = Word × Word} (λ second. (word, second)) o)
    go None = refl
    go (Some second) = refl
