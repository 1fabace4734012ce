-- A step that looks up nothing unsure asks for what was told.
use Rattle.std.proofs.Common.{◌≡◌, ℕ, Bool, true, false, not, cond, ◌||◌, Option, Some, None, Ok, Err, List, [], ◌∷◌, ◌++◌, flat_map, length, nat_lt, refl, sym, ap, ◌∙◌}
use Rattle.std.specs.Prelude.{option_and_then, option_map, if◌then◌else◌}
use Rattle.std.specs.List.{list_any}
use Rattle.std.specs.Option.{option_or}
use Rattle.std.proofs.lemmas.List.Folds.{list_any-append}
use Rattle.std.proofs.lemmas.Slice.Eq.{bytes_eq-Decides}
use Rattle.group_tree.specs.Names.{Name, same_name, is_among}
use Rattle.group_tree.specs.Variables.{Scalar, Text}
use Rattle.text_syntax.specs.Words.{Ref, whole, part, hostname, Part, plain, hole, braces, parts_of}
use Rattle.text_syntax.specs.Faults.{max_rendered}
use Rattle.text_syntax.specs.Renders.{Values, first_undefined, part_text, printed_value, rendered, undefined_in}
use Rattle.cond.specs.Meaning.{Plain, Verdict}
use Rattle.cond.specs.Mentions.{AgreeBeside, mentions, names_in_ref, names_of}
use Rattle.cond.specs.Trees.{verdict_of}
use Rattle.cond.specs.declared.condition.Cond.{Cond}
use Rattle.cond.proofs.Unmentioned.{condition_same}
use Rattle.play_model.specs.Results.{Row}
use Rattle.play_model.specs.declared.step.Step.{Step}
use Rattle.host_vars.specs.HostVars.{field_in_row}
use Rattle.host_vars.specs.Conditions.{result_or_variable, scalar_in}
use Rattle.host_track.specs.Hosts.{Known, environment_in, is_called, values_in}
use Rattle.host_track.specs.Judging.{decided, register_of}
use Rattle.host_track.specs.Endings as ending
use Rattle.host_track.specs.Asking.{Request, asked_if, asks, ended, is_to_run, job, settled, text, with_word, worded, worded_by, words_asked}
use Rattle.result_dependencies.specs.Reads.{names_in_part, names_in_word, names_in_words}
use Rattle.command_preview.specs.Previews.{foreseen, hole_text, field_tail, is_decided, when_foreseen}
use Rattle.command_preview.specs.Laws.{AsksAsTold, HasResultsOf, IsSkippedAsTold}
use Rattle.command_preview.specs.Lines.{fresh}
use Rattle.command_preview.specs.Unsure.{is_registered}

left_none : (a b : Bool) → (a || b) ≡ false → a ≡ false
left_none true b none = none
left_none false b none = refl

right_none : (a b : Bool) → (a || b) ≡ false → b ≡ false
right_none true b none = absurd (cc)
right_none false b none = none

both_none : (a b : Bool) → a ≡ false → b ≡ false → (a || b) ≡ false
both_none true b one other = one
both_none false b one other = other

-- a test that passes less
any_fewer : (p q : Name → Bool) → ((name : Name) → p name ≡ false → q name ≡ false) → (names : List Name) → list_any p names ≡ false → list_any q names ≡ false
any_fewer p q fewer [] none = refl
any_fewer p q fewer (name ∷ names) none =
    both_none (q name) (list_any q names) (fewer name (left_none (p name) (list_any p names) none)) (any_fewer p q fewer names (right_none (p name) (list_any p names) none))

apart_first : (test : Name → Bool) (name first : Name) (same : Bool) → same_name name first ≡ same → test name ≡ true → test first ≡ false → same_name name first ≡ false
apart_first test name first true same is other =
    let named : name ≡ first = (bytes_eq-Decides name first).0 same in
    let both : test first ≡ true = ap test (sym named) ∙ is in
    absurd (cc)
apart_first test name first false same is other = same

not_among : (test : Name → Bool) (name : Name) (names : List Name) → test name ≡ true → list_any test names ≡ false → is_among name names ≡ false
not_among test name [] is none = refl
not_among test name (first ∷ names) is none =
    both_none (same_name name first) (is_among name names)
    (apart_first test name first (same_name name first) refl is (left_none (test first) (list_any test names) none))
    (not_among test name names is (right_none (test first) (list_any test names) none))

-- the host without a result under this name
abbrev without : Name → Known → Known
without name known = record { variables = known.variables; results = λ other. cond (same_name name other) None (known.results other); owes = known.owes }

differ_there : (name : Name) (known : Known) → AgreeBeside name (environment_in known) (environment_in (without name known))
differ_there name known = record {
  value = λ of apart. sym (ap (λ b. result_or_variable (cond b None (known.results of)) (known.variables.variable of)) apart);
  field = λ of field apart. sym (ap (λ b. option_and_then (λ (row : Row). field_in_row row field) (cond b None (known.results of))) apart);
  in_group = λ group. refl;
  host = refl;
}

module _ (step : Step) (steps : List Step) (condition : Cond) where
  abbrev IsSame : List Step → Known → Type 0
  IsSame before known =
      HasResultsOf before known → list_any (is_registered before) (names_of condition) ≡ false
      → verdict_of (environment_in known) condition ≡ verdict_of (environment_in (fresh known.variables)) condition

  fewer_names : (name : Name) → is_registered (step ∷ steps) name ≡ false → is_registered steps name ≡ false
  fewer_names name none = right_none (is_called (register_of step) name) (is_registered steps name) none

  result_gone : (known : Known) (name other : Name) (same : Bool) → same_name name other ≡ same → (same ≡ false → known.results other ≡ None)
      → cond (same_name name other) None (known.results other) ≡ None
  result_gone known name other true same none = ap (λ b. cond b None (known.results other)) same
  result_gone known name other false same none = ap (λ b. cond b None (known.results other)) same ∙ none refl

  by_register : (register : Option Name) → register_of step ≡ register → ((known : Known) → IsSame steps known) → (known : Known) → IsSame (step ∷ steps) known
  by_register None is later known has none =
      later known (λ name free. has name (both_none (is_called (register_of step) name) (is_registered steps name) (ap (λ r. is_called r name) is) free))
      (any_fewer (is_registered (step ∷ steps)) (is_registered steps) fewer_names (names_of condition) none)
  by_register (Some name) is later known has none =
      let here : is_called (register_of step) name ≡ true = ap (λ r. is_called r name) is ∙ (bytes_eq-Decides name name).1 refl in
      let registered : is_registered (step ∷ steps) name ≡ true = ap (λ b. b || is_registered steps name) here in
      let apart : mentions name condition ≡ false = not_among (is_registered (step ∷ steps)) name (names_of condition) registered none in
      let gone : HasResultsOf steps (without name known) =
      λ other free. result_gone known name other (same_name name other) refl
      (λ same. has other (both_none (is_called (register_of step) other) (is_registered steps other) (ap (λ r. is_called r other) is ∙ same) free)) in
      condition_same name condition (environment_in known) (environment_in (without name known)) apart (differ_there name known)
      ∙ later (without name known) gone (any_fewer (is_registered (step ∷ steps)) (is_registered steps) fewer_names (names_of condition) none)

same_verdict : (steps : List Step) (condition : Cond) (known : Known) → HasResultsOf steps known → list_any (is_registered steps) (names_of condition) ≡ false
    → verdict_of (environment_in known) condition ≡ verdict_of (environment_in (fresh known.variables)) condition
same_verdict [] condition known has none =
    ap (λ (k : Known). verdict_of (environment_in k) condition) (λ j. record { variables = known.variables; results = λ name. has name refl j; owes = known.owes })
same_verdict (step ∷ steps) condition known has none =
    by_register step steps condition (register_of step) refl (same_verdict steps condition) known has none

not_true : (b : Bool) → not b ≡ true → b ≡ false
not_true true is = absurd (cc)
not_true false is = refl

same_when : (steps : List Step) (known : Known) → HasResultsOf steps known → (when : Option Cond) → is_decided (is_registered steps) when ≡ true
    → decided (environment_in known) when true ≡ decided (environment_in (fresh known.variables)) when true
same_when steps known has None is = refl
same_when steps known has (Some condition) is =
    same_verdict steps condition known has (not_true (list_any (is_registered steps) (names_of condition)) is)

-- holes without an unsure name
module _ (steps : List Step) (known : Known) (has : HasResultsOf steps known) where
  abbrev unsure : Name → Bool
  unsure = is_registered steps

  abbrev told : Values
  told = foreseen unsure (values_in (fresh known.variables))

  same_value : (of : Ref) → list_any unsure (names_in_ref of) ≡ false → values_in known of ≡ told of
  same_value (whole name) none =
      let sure : unsure name ≡ false = left_none (unsure name) false none in
      ap (λ r. option_and_then scalar_in (result_or_variable r (known.variables.variable name))) (has name sure)
      ∙ sym (ap (λ b. option_or (option_map Text (if b then Some (hole_text name []) else None)) (values_in (fresh known.variables) (whole name))) sure)
  same_value (part name field) none =
      let sure : unsure name ≡ false = left_none (unsure name) false none in
      ap (λ r. option_and_then scalar_in (option_map Plain (option_and_then (λ (row : Row). field_in_row row field) r))) (has name sure)
      ∙ sym (ap (λ b. option_or (option_map Text (if b then Some (hole_text name (field_tail field)) else None)) (values_in (fresh known.variables) (part name field))) sure)
  same_value hostname none = refl

  same_undefined : (piece : Part) → list_any unsure (names_in_part piece) ≡ false → undefined_in (values_in known) piece ≡ undefined_in told piece
  same_undefined (plain bytes) none = refl
  same_undefined (hole of) none = ap (λ (value : Option Scalar). undefined_in (λ _. value) (hole of)) (same_value of none)
  same_undefined braces none = refl

  same_text : (piece : Part) → list_any unsure (names_in_part piece) ≡ false → part_text (values_in known) piece ≡ part_text told piece
  same_text (plain bytes) none = refl
  same_text (hole of) none = ap printed_value (same_value of none)
  same_text braces none = refl

  first_part_sure : (piece : Part) (pieces : List Part) → list_any unsure (flat_map names_in_part (piece ∷ pieces)) ≡ false → list_any unsure (names_in_part piece) ≡ false
  first_part_sure piece pieces none =
      left_none (list_any unsure (names_in_part piece)) (list_any unsure (flat_map names_in_part pieces))
      (sym (list_any-append unsure (names_in_part piece) (flat_map names_in_part pieces)) ∙ none)

  later_parts_sure : (piece : Part) (pieces : List Part) → list_any unsure (flat_map names_in_part (piece ∷ pieces)) ≡ false → list_any unsure (flat_map names_in_part pieces) ≡ false
  later_parts_sure piece pieces none =
      right_none (list_any unsure (names_in_part piece)) (list_any unsure (flat_map names_in_part pieces))
      (sym (list_any-append unsure (names_in_part piece) (flat_map names_in_part pieces)) ∙ none)

  same_first : (pieces : List Part) → list_any unsure (flat_map names_in_part pieces) ≡ false → first_undefined (values_in known) pieces ≡ first_undefined told pieces
  same_first [] none = refl
  same_first (piece ∷ pieces) none =
      let here = same_undefined piece (first_part_sure piece pieces none) in
      let later = same_first pieces (later_parts_sure piece pieces none) in
      ap (λ o. option_or o (first_undefined (values_in known) pieces)) here ∙ ap (option_or (undefined_in told piece)) later

  same_texts : (pieces : List Part) → list_any unsure (flat_map names_in_part pieces) ≡ false → flat_map (part_text (values_in known)) pieces ≡ flat_map (part_text told) pieces
  same_texts [] none = refl
  same_texts (piece ∷ pieces) none =
      let here = same_text piece (first_part_sure piece pieces none) in
      let later = same_texts pieces (later_parts_sure piece pieces none) in
      ap (λ l. l ++ flat_map (part_text (values_in known)) pieces) here ∙ ap (λ l. part_text told piece ++ l) later

  same_word : (word : List ℕ) → list_any unsure (names_in_word word) ≡ false → worded (values_in known) word ≡ worded told word
  same_word word none =
      ap (λ o. worded_by o (rendered (values_in known) word)) (same_first (parts_of word) none)
      ∙ ap (worded_by (first_undefined told (parts_of word))) (same_texts (parts_of word) none)

  same_words : (words : List (List ℕ)) → list_any unsure (names_in_words words) ≡ false → words_asked (values_in known) words ≡ words_asked told words
  same_words [] none = refl
  same_words (word ∷ words) none =
      let parts = sym (list_any-append unsure (names_in_word word) (names_in_words words)) ∙ none in
      let here = same_word word (left_none (list_any unsure (names_in_word word)) (list_any unsure (names_in_words words)) parts) in
      let later = same_words words (right_none (list_any unsure (names_in_word word)) (list_any unsure (names_in_words words)) parts) in
      ap (λ w. with_word w (words_asked (values_in known) words)) here ∙ ap (with_word (worded told word)) later

  foreseen_decided : (step : Step) → is_decided unsure step.when ≡ true → when_foreseen unsure (fresh known.variables) step ≡ is_to_run (environment_in (fresh known.variables)) step
  foreseen_decided step is = ap (λ b. if b then is_to_run (environment_in (fresh known.variables)) step else Ok true) is

  same_run : (step : Step) → is_decided unsure step.when ≡ true → is_to_run (environment_in known) step ≡ when_foreseen unsure (fresh known.variables) step
  same_run step is = same_when steps known has step.when is ∙ sym (foreseen_decided step is)

  word_ends : (undefined : Option Name) (rendering : List ℕ) (rest : Request) → (rest ≡ settled ending.skipped → ⊥) → with_word (worded_by undefined rendering) rest ≡ settled ending.skipped → ⊥
  word_ends (Some name) rendering rest never is = cc
  word_ends None rendering rest never is = by_length (nat_lt max_rendered (length rendering)) rest never is
    where
      by_length : (long : Bool) (rest : Request) → (rest ≡ settled ending.skipped → ⊥) → with_word (if long then ended ending.not_started else text rendering) rest ≡ settled ending.skipped → ⊥
      by_length true rest never is = cc
      by_length false (job words) never is = cc
      by_length false (settled end) never is = never is

  -- words alone are never skipped
  never_skipped : (values : Values) (words : List (List ℕ)) → words_asked values words ≡ settled ending.skipped → ⊥
  never_skipped values [] is = cc
  never_skipped values (word ∷ words) is =
      word_ends (first_undefined values (parts_of word)) (rendered values word) (words_asked values words) (never_skipped values words) is

  skipped_if : (step : Step) (is_sure : Bool) (verdict : Verdict) → is_decided unsure step.when ≡ is_sure → when_foreseen unsure (fresh known.variables) step ≡ verdict
      → asked_if verdict (words_asked told step.words) ≡ settled ending.skipped → asks known step ≡ settled ending.skipped
  skipped_if step true (Ok true) sure verdict is = absurd (never_skipped told step.words is)
  skipped_if step true (Ok false) sure verdict is =
      ap (λ v. asked_if v (words_asked (values_in known) step.words)) (same_run step sure ∙ verdict)
  skipped_if step true (Err name) sure verdict is = absurd (cc)
  skipped_if step false verdict sure so is =
      let undecided : when_foreseen unsure (fresh known.variables) step ≡ Ok true =
      ap (λ b. if b then is_to_run (environment_in (fresh known.variables)) step else Ok true) sure in
      absurd (never_skipped told step.words (ap (λ v. asked_if v (words_asked told step.words)) (sym undecided ∙ so) ∙ is))

pub asks_as_told : (steps : List Step) (known : Known) (step : Step) → HasResultsOf steps known → AsksAsTold steps known step
asks_as_told steps known step has is none =
    ap (λ v. asked_if v (words_asked (values_in known) step.words)) (same_run steps known has step is)
    ∙ ap (asked_if (when_foreseen (is_registered steps) (fresh known.variables) step)) (same_words steps known has step.words none)

pub skipped_as_told : (steps : List Step) (known : Known) (step : Step) → HasResultsOf steps known → IsSkippedAsTold steps known step
skipped_as_told steps known step has is =
    skipped_if steps known has step (is_decided (is_registered steps) step.when) (when_foreseen (is_registered steps) (fresh known.variables) step) refl refl is
