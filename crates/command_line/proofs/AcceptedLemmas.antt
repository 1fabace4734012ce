-- Where the operands of a command may stand, and that clap takes each of them for a value.
use Rattle.std.proofs.Common.{◌≡◌, ℕ, Bool, true, false, eqb, List, [], ◌∷◌, Option, Some, None, cond, refl, sym, subst, option_map}
use Rattle.clap.specs.Lexer.{long_of, short_of}
use Rattle.std.specs.Str.{bytes_eq}
use Rattle.std.proofs.lemmas.Slice.Eq.{bytes_eq-Decides}
use Rattle.command_line.specs.Operands.{Word, dashes, is_operand, lone_operand, three_operands, three_words, two_words, two_operands}

no_dash : (x : Bool) → cond x false true ≡ true → x ≡ false
no_dash true h = sym h
no_dash false h = refl

-- what holds of the only operand, wherever the word that ends options stands
module _ (P : List Word → Word → Type 0) (alone : (word : Word) → is_operand word ≡ true → P (word ∷ []) word)
    (behind : (word : Word) → P (dashes ∷ word ∷ []) word) (before : (word : Word) → is_operand word ≡ true → P (word ∷ dashes ∷ []) word) where
  one_operand : (word file : Word) (plain : Bool) → is_operand word ≡ plain → cond plain (Some word) None ≡ Some file → P (word ∷ []) file
  one_operand word file true plain wanted =
      let same : word ≡ file = cc in subst (P (word ∷ [])) same (alone word plain)
  one_operand word file false plain wanted = cc

  operand_before : (word file : Word) (plain : Bool) → is_operand word ≡ plain → cond plain (Some word) None ≡ Some file → P (word ∷ dashes ∷ []) file
  operand_before word file true plain wanted =
      let same : word ≡ file = cc in subst (P (word ∷ dashes ∷ [])) same (before word plain)
  operand_before word file false plain wanted = cc

  of_two : (first second file : Word) (is_behind is_before : Bool) → bytes_eq first dashes ≡ is_behind → bytes_eq second dashes ≡ is_before
      → cond is_behind (Some second) (cond is_before (cond (is_operand first) (Some first) None) None) ≡ Some file → P (first ∷ second ∷ []) file
  of_two first second file true is_before is_first is_second wanted =
      let is : first ≡ dashes = (bytes_eq-Decides first dashes).0 is_first in
      let same : second ≡ file = cc in
      subst (λ w. P (w ∷ second ∷ []) file) (sym is) (subst (P (dashes ∷ second ∷ [])) same (behind second))
  of_two first second file false true is_first is_second wanted =
      let is : second ≡ dashes = (bytes_eq-Decides second dashes).0 is_second in
      subst (λ w. P (first ∷ w ∷ []) file) (sym is) (operand_before first file (is_operand first) refl wanted)
  of_two first second file false false is_first is_second wanted = cc

  pub of_operands : (operands : List Word) (file : Word) → lone_operand operands ≡ Some file → P operands file
  of_operands [] file wanted = cc
  of_operands (word ∷ []) file wanted = one_operand word file (is_operand word) refl wanted
  of_operands (first ∷ second ∷ []) file wanted = of_two first second file (bytes_eq first dashes) (bytes_eq second dashes) refl refl wanted
  of_operands (first ∷ second ∷ third ∷ more) file wanted = cc

-- clap takes the word for a value: it neither ends the options nor is one
pub record IsValue (word : Word) : Type 0 where
  pub no_end : bytes_eq word dashes ≡ false
  pub no_long : long_of word ≡ None
  pub no_short : short_of word ≡ None

pub value_letter : (a : ℕ) (dash : Bool) → eqb a 45 ≡ dash → IsValue (a ∷ [])
value_letter a true h = record { no_end = simp h; no_long = simp h; no_short = simp h }
value_letter a false h = record { no_end = simp h; no_long = simp h; no_short = simp h }

pub value_long : (a b : ℕ) (rest : Word) → eqb a 45 ≡ false → IsValue (a ∷ b ∷ rest)
value_long a b rest h = record { no_end = simp h; no_long = simp h; no_short = simp h }

pub value_of_operand : (word : Word) → is_operand word ≡ true → IsValue word
value_of_operand [] h = record { no_end = refl; no_long = refl; no_short = refl }
value_of_operand (a ∷ []) h = value_letter a (eqb a 45) refl
value_of_operand (a ∷ b ∷ rest) h = value_long a b rest (no_dash (eqb a 45) h)

-- what holds of two operands, wherever the word that ends options stands
module _ (P : List Word → Word × Word → Type 0) (alone : (first second : Word) → IsValue first → IsValue second → P (first ∷ second ∷ []) (first, second))
    (behind : (first second : Word) → P (dashes ∷ first ∷ second ∷ []) (first, second)) (between : (first second : Word) → IsValue first → P (first ∷ dashes ∷ second ∷ []) (first, second))
    (before : (first second : Word) → IsValue first → IsValue second → P (first ∷ second ∷ dashes ∷ []) (first, second)) where
  with_rest : (first second : Word) (rest : List Word) → is_operand first ≡ true → lone_operand rest ≡ Some second → P (first ∷ rest) (first, second)
  with_rest first second rest plain wanted =
      let value : IsValue first = value_of_operand first plain in
      of_operands (λ given file. P (first ∷ given) (first, file))
      (λ word h. alone first word value (value_of_operand word h)) (λ word. between first word value)
      (λ word h. before first word value (value_of_operand word h)) rest second wanted

  with_first : (first : Word) (rest : List Word) (files : Word × Word) (second : Option Word) → is_operand first ≡ true → lone_operand rest ≡ second
      → option_map (λ file. (first, file)) second ≡ Some files → P (first ∷ rest) files
  with_first first rest files None plain read wanted = cc
  with_first first rest files (Some second) plain read wanted =
      let same : (first, second) ≡ files = cc in subst (P (first ∷ rest)) same (with_rest first second rest plain read)

  behind_dashes : (rest : List Word) (files : Word × Word) → two_words rest ≡ Some files → P (dashes ∷ rest) files
  behind_dashes [] files wanted = cc
  behind_dashes (first ∷ []) files wanted = cc
  behind_dashes (first ∷ second ∷ []) files wanted =
      let same : (first, second) ≡ files = cc in subst (P (dashes ∷ first ∷ second ∷ [])) same (behind first second)
  behind_dashes (first ∷ second ∷ third ∷ more) files wanted = cc

  by_first : (first : Word) (rest : List Word) (files : Word × Word) (ends plain : Bool) → bytes_eq first dashes ≡ ends → is_operand first ≡ plain
      → cond ends (two_words rest) (cond plain (option_map (λ second. (first, second)) (lone_operand rest)) None) ≡ Some files
      → P (first ∷ rest) files
  by_first first rest files true plain is_end is_plain wanted =
      let is : first ≡ dashes = (bytes_eq-Decides first dashes).0 is_end in
      subst (λ w. P (w ∷ rest) files) (sym is) (behind_dashes rest files wanted)
  by_first first rest files false true is_end is_plain wanted = with_first first rest files (lone_operand rest) is_plain refl wanted
  by_first first rest files false false is_end is_plain wanted = cc

  pub of_two_operands : (operands : List Word) (files : Word × Word) → two_operands operands ≡ Some files → P operands files
  of_two_operands [] files wanted = cc
  of_two_operands (first ∷ rest) files wanted = by_first first rest files (bytes_eq first dashes) (is_operand first) refl refl wanted

-- what holds of three operands, wherever the word that ends options stands
module _ (P : List Word → Word × Word × Word → Type 0) (alone : (a b c : Word) → IsValue a → IsValue b → IsValue c → P (a ∷ b ∷ c ∷ []) (a, b, c))
    (behind : (a b c : Word) → P (dashes ∷ a ∷ b ∷ c ∷ []) (a, b, c)) (behind_first : (a b c : Word) → IsValue a → P (a ∷ dashes ∷ b ∷ c ∷ []) (a, b, c))
    (behind_second : (a b c : Word) → IsValue a → IsValue b → P (a ∷ b ∷ dashes ∷ c ∷ []) (a, b, c))
    (before : (a b c : Word) → IsValue a → IsValue b → IsValue c → P (a ∷ b ∷ c ∷ dashes ∷ []) (a, b, c)) where
  with_two : (first : Word) (rest : List Word) (others : Word × Word) → is_operand first ≡ true → two_operands rest ≡ Some others → P (first ∷ rest) (first, others.0, others.1)
  with_two first rest others plain wanted =
      let value : IsValue first = value_of_operand first plain in
      of_two_operands (λ given files. P (first ∷ given) (first, files.0, files.1))
      (λ b c p q. alone first b c value p q) (λ b c. behind_first first b c value) (λ b c p. behind_second first b c value p)
      (λ b c p q. before first b c value p q) rest others wanted

  first_of_three : (first : Word) (rest : List Word) (files : Word × Word × Word) (others : Option (Word × Word)) → is_operand first ≡ true → two_operands rest ≡ others
      → option_map (λ (o : Word × Word). (first, o.0, o.1)) others ≡ Some files → P (first ∷ rest) files
  first_of_three first rest files None plain read wanted = cc
  first_of_three first rest files (Some others) plain read wanted =
      let same : (first, others.0, others.1) ≡ files = cc in subst (P (first ∷ rest)) same (with_two first rest others plain read)

  three_behind : (rest : List Word) (files : Word × Word × Word) → three_words rest ≡ Some files → P (dashes ∷ rest) files
  three_behind [] files wanted = cc
  three_behind (a ∷ []) files wanted = cc
  three_behind (a ∷ b ∷ []) files wanted = cc
  three_behind (a ∷ b ∷ c ∷ []) files wanted =
      let same : (a, b, c) ≡ files = cc in subst (P (dashes ∷ a ∷ b ∷ c ∷ [])) same (behind a b c)
  three_behind (a ∷ b ∷ c ∷ other ∷ more) files wanted = cc

  by_first_of_three : (first : Word) (rest : List Word) (files : Word × Word × Word) (ends plain : Bool) → bytes_eq first dashes ≡ ends → is_operand first ≡ plain
      → cond ends (three_words rest) (cond plain (option_map (λ (o : Word × Word). (first, o.0, o.1)) (two_operands rest)) None) ≡ Some files
      → P (first ∷ rest) files
  by_first_of_three first rest files true plain is_end is_plain wanted =
      let is : first ≡ dashes = (bytes_eq-Decides first dashes).0 is_end in
      subst (λ w. P (w ∷ rest) files) (sym is) (three_behind rest files wanted)
  by_first_of_three first rest files false true is_end is_plain wanted = first_of_three first rest files (two_operands rest) is_plain refl wanted
  by_first_of_three first rest files false false is_end is_plain wanted = cc

  pub of_three_operands : (operands : List Word) (files : Word × Word × Word) → three_operands operands ≡ Some files → P operands files
  of_three_operands [] files wanted = cc
  of_three_operands (first ∷ rest) files wanted = by_first_of_three first rest files (bytes_eq first dashes) (is_operand first) refl refl wanted
