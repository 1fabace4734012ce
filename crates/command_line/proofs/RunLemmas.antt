-- clap takes the words that ask for a run, and reads the same files and the same number of forks.
use Rattle.std.proofs.Common.{◌≡◌, ℕ, Bool, true, false, List, [], ◌∷◌, Option, Some, None, codes, refl, sym, ap, subst, ◌∙◌}
use Rattle.std.specs.Prelude.{option_and_then}
use Rattle.std.specs.Str.{bytes_eq}
use Rattle.std.proofs.lemmas.Slice.Eq.{bytes_eq-Decides}
use Rattle.clap.specs.Words.{subcommand_of, takes}
use Rattle.clap.specs.declared.builder.value_parser.ValueParser.TheVariants.{Unsigned}
use Rattle.command_line.specs.Forks.{default_text, forks_in}
use Rattle.command_line.specs.Operands.{Word, dashes, is_end, is_operand, lone_operand, two_operands}
use Rattle.command_line.specs.Runs.{run_of, without_option}
use Rattle.command_line.specs.Syntax.{file_in, forks_found, rollout}
use Rattle.command_line.proofs.AcceptedLemmas.{IsValue, of_operands, of_two_operands, value_of_operand}
use Rattle.command_line.proofs.RunLevel.{Passes, ReadsText, reads}
use Rattle.command_line.proofs.RunShapes.{IsText, with_option}
use Rattle.command_line.proofs.RunShapes as shape
use Rattle.command_line.proofs.OptionLemmas.{View, operand, option, ended, Writes, text_of, view, writes}

-- ---- no operand left

module _ (P : List Word → Word → Type 0) (none : P [] default_text) (dash : P (dashes ∷ []) default_text)
    (last : (given : Bool) (text : Word) → Writes text → P (with_option given text []) text)
    (last_dash : (given : Bool) (text : Word) → Writes text → P (with_option given text (dashes ∷ [])) text) where
  abbrev AtEnd : List Word → List Word × Option Word → Type 0
  AtEnd words left = is_end left.0 ≡ true → Writes (text_of left) → P words (text_of left)

  end_rest : (given : Bool) (text : Word) (rest : List Word) → is_end rest ≡ true → Writes text → P (with_option given text rest) text
  end_rest given text [] end written = last given text written
  end_rest given text (word ∷ []) end written =
      subst (λ w. P (with_option given text (w ∷ [])) text) (sym ((bytes_eq-Decides word dashes).0 end)) (last_dash given text written)
  end_rest given text (word ∷ other ∷ more) end written = cc

  end_plain : (words : List Word) → is_end words ≡ true → P words default_text
  end_plain [] end = none
  end_plain (word ∷ []) end = subst (λ w. P (w ∷ []) default_text) (sym ((bytes_eq-Decides word dashes).0 end)) dash
  end_plain (word ∷ other ∷ more) end = cc

  no_end : (word : Word) (rest : List Word) → bytes_eq word dashes ≡ false → is_end (word ∷ rest) ≡ true → ⊥
  no_end word [] inside end = cc
  no_end word (other ∷ more) inside end = cc

  end_by : (words : List Word) → View words → AtEnd words (without_option words)
  end_by words (option given text rest is left) =
      subst (AtEnd words) (sym left) (λ end written. subst (λ w. P w text) (sym is) (end_rest given text rest end written))
  end_by words (ended left) = subst (AtEnd words) (sym left) (λ end written. end_plain words end)
  end_by words (operand first rest is inside left) = subst (AtEnd words) (sym left) (λ end written. absurd (no_end first (without_option rest).0 inside end))

  at_end : (words : List Word) → AtEnd words (without_option words)
  at_end words = end_by words (view words)

-- ---- one operand left

-- an operand that ends no options is the only one where the others are none
only_parts : (word : Word) (rest : List Word) (wanted : Word) (plain ends : Bool) → bytes_eq word dashes ≡ false → is_operand word ≡ plain → is_end rest ≡ ends
    → lone_operand (word ∷ rest) ≡ Some wanted → (plain ≡ true) × (ends ≡ true) × (word ≡ wanted)
only_parts word [] wanted true true inside at at_end found = (refl, refl, let same : Some word ≡ Some wanted = rw at at found in cc)
only_parts word [] wanted true false inside at at_end found = cc
only_parts word [] wanted false ends inside at at_end found = let bad : ◌≡◌ {A = Option Word} None (Some wanted) = rw at at found in cc
only_parts word (other ∷ []) wanted true true inside at at_end found =
    (refl, refl, let same : Some word ≡ Some wanted = rw (inside, at_end, at) at found in cc)
only_parts word (other ∷ []) wanted plain false inside at at_end found = let bad : ◌≡◌ {A = Option Word} None (Some wanted) = rw (inside, at_end) at found in cc
only_parts word (other ∷ []) wanted false true inside at at_end found = let bad : ◌≡◌ {A = Option Word} None (Some wanted) = rw (inside, at_end, at) at found in cc
only_parts word (other ∷ third ∷ more) wanted plain ends inside at at_end found = cc

module _ (P : List Word → Word → Word → Type 0) (alone : (word : Word) → is_operand word ≡ true → P (word ∷ []) word default_text)
    (behind_dash : (word : Word) → P (dashes ∷ word ∷ []) word default_text) (before_dash : (word : Word) → is_operand word ≡ true → P (word ∷ dashes ∷ []) word default_text)
    (first : (given : Bool) (text word : Word) → Writes text → is_operand word ≡ true → P (with_option given text (word ∷ [])) word text)
    (first_behind : (given : Bool) (text word : Word) → Writes text → P (with_option given text (dashes ∷ word ∷ [])) word text)
    (first_before : (given : Bool) (text word : Word) → Writes text → is_operand word ≡ true → P (with_option given text (word ∷ dashes ∷ [])) word text)
    (last : (given : Bool) (text word : Word) → Writes text → is_operand word ≡ true → P (word ∷ with_option given text []) word text)
    (last_before : (given : Bool) (text word : Word) → Writes text → is_operand word ≡ true → P (word ∷ with_option given text (dashes ∷ [])) word text) where
  abbrev WithOne : List Word → List Word × Option Word → Type 0
  WithOne words left = (word : Word) → lone_operand left.0 ≡ Some word → Writes (text_of left) → P words word (text_of left)

  behind_first : (first : Word) (rest : List Word) (word : Word) → bytes_eq first dashes ≡ false → lone_operand (first ∷ (without_option rest).0) ≡ Some word
      → Writes (text_of (without_option rest)) → P (first ∷ rest) word (text_of (without_option rest))
  behind_first first rest word inside wanted written =
      let parts = only_parts first (without_option rest).0 word (is_operand first) (is_end (without_option rest).0) inside refl refl wanted in
      let plain = parts.0 in
      subst (λ w. P (first ∷ rest) w (text_of (without_option rest))) parts.2
      (at_end (λ words text. P (first ∷ words) first text) (alone first plain) (before_dash first plain)
      (λ given text h. last given text first h plain) (λ given text h. last_before given text first h plain) rest parts.1 written)

  one_by : (words : List Word) → View words → WithOne words (without_option words)
  one_by words (option given text rest is left) = subst (WithOne words) (sym left) (λ word wanted written. subst (λ ws. P ws word text) (sym is)
      (of_operands (λ ws w. P (with_option given text ws) w text) (λ w h. first given text w written h) (λ w. first_behind given text w written)
      (λ w h. first_before given text w written h) rest word wanted))
  one_by words (ended left) = subst (WithOne words) (sym left) (λ word wanted written. of_operands (λ ws w. P ws w default_text) alone behind_dash before_dash words word wanted)
  one_by words (operand first rest is inside left) = subst (WithOne words) (sym left) (λ word wanted written. subst (λ ws. P ws word (text_of (without_option rest))) (sym is)
      (behind_first first rest word inside wanted written))

  with_one : (words : List Word) → WithOne words (without_option words)
  with_one words = one_by words (view words)

-- ---- two operands left

abbrev Runs : List Word → Word → Word → Word → Type 0
Runs words first second text = ReadsText rollout (codes "run" ∷ words) first second text

runs : (words : List Word) (first second text : Word) → Passes (Unsigned 1 64) words first second text → Runs words first second text
runs words first second text passes = reads (Unsigned 1 64) refl words first second text passes

as_written : (text : Word) → text ≡ text
as_written text = refl

abbrev WithTwo : List Word → List Word × Option Word → Type 0
WithTwo words left = (files : Word × Word) → two_operands left.0 ≡ Some files → Writes (text_of left) → Runs words files.0 files.1 (text_of left)

-- a first operand that ends no options, and the only operand of the others
two_parts : (word : Word) (rest : List Word) (files : Word × Word) (plain : Bool) (one : Option Word) → bytes_eq word dashes ≡ false → is_operand word ≡ plain → lone_operand rest ≡ one
    → two_operands (word ∷ rest) ≡ Some files → (plain ≡ true) × (one ≡ Some files.1) × (word ≡ files.0)
two_parts word rest files true (Some second) inside at lone found =
    let same : Some (word, second) ≡ Some files = rw (inside, at, lone) at found in
    let parts : (word, second) ≡ files = cc in
    (refl, ap (λ (p : Word × Word). Some p.1) parts, ap (λ (p : Word × Word). p.0) parts)
two_parts word rest files true None inside at lone found = let bad : ◌≡◌ {A = Option (Word × Word)} None (Some files) = rw (inside, at, lone) at found in cc
two_parts word rest files false one inside at lone found = let bad : ◌≡◌ {A = Option (Word × Word)} None (Some files) = rw (inside, at) at found in cc

first_of_two : (first : Word) (rest : List Word) (files : Word × Word) → bytes_eq first dashes ≡ false → two_operands (first ∷ (without_option rest).0) ≡ Some files
    → Writes (text_of (without_option rest)) → Runs (first ∷ rest) files.0 files.1 (text_of (without_option rest))
first_of_two first rest files inside wanted written =
    let parts = two_parts first (without_option rest).0 files (is_operand first) (lone_operand (without_option rest).0) inside refl refl wanted in
    let p : IsValue first = value_of_operand first parts.0 in
    subst (λ w. Runs (first ∷ rest) w files.1 (text_of (without_option rest))) parts.2
    (with_one (λ words second text. Runs (first ∷ words) first second text)
    (λ word h. runs _ _ _ _ (shape.plain (Unsigned 1 64) as_written first word p (value_of_operand word h)))
    (λ word. runs _ _ _ _ (shape.plain_between (Unsigned 1 64) as_written first word p))
    (λ word h. runs _ _ _ _ (shape.plain_before (Unsigned 1 64) as_written first word p (value_of_operand word h)))
    (λ given text word t h. runs _ _ _ _ (shape.option_between (Unsigned 1 64) as_written given first word text p (value_of_operand word h) t))
    (λ given text word t. runs _ _ _ _ (shape.option_between_behind (Unsigned 1 64) as_written given first word text p t))
    (λ given text word t h. runs _ _ _ _ (shape.option_between_before (Unsigned 1 64) as_written given first word text p (value_of_operand word h) t))
    (λ given text word t h. runs _ _ _ _ (shape.option_last (Unsigned 1 64) as_written given first word text p (value_of_operand word h) t))
    (λ given text word t h. runs _ _ _ _ (shape.option_last_before (Unsigned 1 64) as_written given first word text p (value_of_operand word h) t))
    rest files.1 parts.1 written)

two_by : (words : List Word) → View words → WithTwo words (without_option words)
two_by words (option given text rest is left) = subst (WithTwo words) (sym left) (λ files wanted t. subst (λ ws. Runs ws files.0 files.1 text) (sym is)
    (of_two_operands (λ ws fs. Runs (with_option given text ws) fs.0 fs.1 text)
    (λ first second p q. runs _ _ _ _ (shape.option_first (Unsigned 1 64) as_written given first second text p q t))
    (λ first second. runs _ _ _ _ (shape.option_first_behind (Unsigned 1 64) as_written given first second text t))
    (λ first second p. runs _ _ _ _ (shape.option_first_between (Unsigned 1 64) as_written given first second text p t))
    (λ first second p q. runs _ _ _ _ (shape.option_first_before (Unsigned 1 64) as_written given first second text p q t)) rest files wanted))
two_by words (ended left) = subst (WithTwo words) (sym left) (λ files wanted t. of_two_operands (λ ws fs. Runs ws fs.0 fs.1 default_text)
    (λ first second p q. runs _ _ _ _ (shape.plain (Unsigned 1 64) as_written first second p q))
    (λ first second. runs _ _ _ _ (shape.plain_behind (Unsigned 1 64) as_written first second))
    (λ first second p. runs _ _ _ _ (shape.plain_between (Unsigned 1 64) as_written first second p))
    (λ first second p q. runs _ _ _ _ (shape.plain_before (Unsigned 1 64) as_written first second p q)) words files wanted)
two_by words (operand first rest is inside left) = subst (WithTwo words) (sym left) (λ files wanted written.
    subst (λ ws. Runs ws files.0 files.1 (text_of (without_option rest))) (sym is) (first_of_two first rest files inside wanted written))

-- ---- the whole line

-- clap takes the words, and reads both files and the number of forks
pub record ReadsRun (words : List Word) (run : Word × Word × ℕ) : Type 0 where
  pub taken : takes rollout words ≡ true
  pub inventory : file_in (codes "run") (codes "INV") (subcommand_of rollout words) ≡ Some run.0
  pub playbook : file_in (codes "run") (codes "PLAY") (subcommand_of rollout words) ≡ Some run.1
  pub forks : forks_found (subcommand_of rollout words) ≡ Some run.2

run_parts : (left : List Word × Option Word) (run : Word × Word × ℕ) (files : Option (Word × Word)) (forks : Option ℕ) → two_operands left.0 ≡ files → forks_in (text_of left) ≡ forks
    → run_of left ≡ Some run → (files ≡ Some (run.0, run.1)) × (forks ≡ Some run.2)
run_parts left run None forks at read wanted = let bad : ◌≡◌ {A = Option (Word × Word × ℕ)} None (Some run) = rw at at wanted in cc
run_parts left run (Some files) None at read wanted = let bad : ◌≡◌ {A = Option (Word × Word × ℕ)} None (Some run) = rw (at, read) at wanted in cc
run_parts left run (Some files) (Some forks) at read wanted =
    let same : Some (files.0, files.1, forks) ≡ Some run = rw (at, read) at wanted in
    let parts : (files.0, files.1, forks) ≡ run = cc in
    (ap (λ (r : Word × Word × ℕ). Some (r.0, r.1)) parts, ap (λ (r : Word × Word × ℕ). Some r.2) parts)

-- clap takes the words behind the command, and reads the same files and forks
pub run_behind : (words : List Word) (run : Word × Word × ℕ) → run_of (without_option words) ≡ Some run → ReadsRun (codes "run" ∷ words) run
run_behind words run wanted =
    let left = without_option words in
    let parts = run_parts left run (two_operands left.0) (forks_in (text_of left)) refl refl wanted in
    let read = two_by words (view words) (run.0, run.1) parts.0 (writes (text_of left) run.2 parts.1) in
    record {
      taken = read.taken;
      inventory = read.inventory;
      playbook = read.playbook;
      forks = ap (option_and_then forks_in) read.forks ∙ parts.1;
    }
