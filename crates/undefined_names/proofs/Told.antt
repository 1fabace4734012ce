-- A step wants a value of no other name than those that were told of it.
use Rattle.std.proofs.Common.{◌≡◌, ℕ, ℤ, Bool, true, false, cond, is_some, option_map, nat_lt, Option, Some, None, Ok, Err, List, [], ◌∷◌, ◌++◌, flat_map, length, sym, refl, ap, subst, ◌∙◌, inl, inr}
use Rattle.std.specs.Prelude.{◌⊎◌, option_and_then, if◌then◌else◌}
use Rattle.std.specs.Option.{option_or}
use Rattle.group_tree.specs.Names.{Name, is_among}
use Rattle.group_tree.specs.Variables.{Scalar}
use Rattle.text_syntax.specs.Words.{Ref, whole, part, hostname, name_of, Part, plain, hole, braces, parts_of}
use Rattle.text_syntax.specs.Faults.{max_rendered}
use Rattle.text_syntax.specs.Renders.{first_undefined, rendered}
use Rattle.cond.specs.Meaning.{Plain, Verdict}
use Rattle.cond.specs.declared.condition.Cond.{Cond}
use Rattle.play_model.specs.Results.{Row}
use Rattle.play_model.specs.declared.step.Step.{Step}
use Rattle.host_vars.specs.Conditions.{result_or_variable, scalar_in}
use Rattle.host_track.specs.Hosts.{Known, environment_in, is_called, values_in, with_result}
use Rattle.host_track.specs.Judging.{decided, register_of}
use Rattle.host_track.specs.Endings as ending
use Rattle.host_track.specs.Endings.{table_row}
use Rattle.host_track.specs.Asking.{Request, asked_if, asks, ended, is_to_run, job, settled, text, with_word, worded_by, words_asked}
use Rattle.host_track.specs.Undefined.{first_name, undefined_by}
use Rattle.undefined_names.specs.Accords.{Accords, IsForetold}
use Rattle.undefined_names.specs.Accords as accords
use Rattle.undefined_names.specs.Laws.{AsksForToldNames, Follows, IsTold, JudgesByToldNames, LacksCode, SkippedStepsRunNothing}
use Rattle.undefined_names.specs.UndefinedReads.{behind, has_no_text, missed_behind, missed_by, missed_if_run, missed_in_hole, missed_in_part, missed_in_word, missed_in_words, missed_names, outlook_if, outset_of}
use Rattle.undefined_names.specs.Outlook.{decides, missed_if}
use Rattle.undefined_names.specs.InitialEnv.{InitialEnv, NameStatus, variable, registered, perhaps, nothing}
use Rattle.undefined_names.specs.EarlierSteps.{EarlierSteps}
use Rattle.undefined_names.proofs.Onces.{among_once}
use Rattle.undefined_names.proofs.Foresights.{condition_foreseen, field_said, goes_on, behind_same, stands_alone, told_left, told_right}
use Rattle.undefined_names.proofs.Standings.{Fits, accords_before, accords_behind, behind_fits, field_of, name_fits, without_code}

no_field : (scalar : Option Scalar) → option_and_then scalar_in (option_map Plain scalar) ≡ None → option_map Plain scalar ≡ None
no_field None none = refl
no_field (Some scalar) none = absurd (cc)

module _ (outset : InitialEnv) (known : Known) (fits : (name : Name) → Fits (outset.standing name) (known.results name) (known.variables.variable name))
    (so : Accords outset (environment_in known)) where
  abbrev Told : List Name → Name → Type 0
  Told = IsForetold outset (environment_in known)

  whole_missed : (standing : NameStatus) (row : Option Row) (scalar : Option Scalar) (name : Name) → Fits standing row scalar → option_and_then scalar_in (result_or_variable row scalar) ≡ None
      → is_among name (missed_if (has_no_text standing) name) ≡ true
  whole_missed (variable value) row scalar name fit none =
      let there : result_or_variable row scalar ≡ Some (Plain value) = fit.value (Plain value) refl in
      absurd (let wrong = ap (option_and_then scalar_in) there in cc)
  whole_missed registered row scalar name fit none = stands_alone name
  whole_missed (perhaps is_variable) row scalar name fit none = stands_alone name
  whole_missed nothing row scalar name fit none = stands_alone name

  hole_missed : (of : Ref) → values_in known of ≡ None → Told (missed_in_hole outset of) (name_of of)
  hole_missed (whole name) none = inl (whole_missed (outset.standing name) (known.results name) (known.variables.variable name) name (fits name) none)
  hole_missed (part name of) none = field_said outset (environment_in known) so name of (no_field (field_of (known.results name) of) none)
  hole_missed hostname none = absurd (cc)

  hole_undefined : (of : Ref) (value : Option Scalar) (pieces : List Part) (name : Name) → values_in known of ≡ value
      → (first_undefined (values_in known) pieces ≡ Some name → Told (flat_map (missed_in_part outset) pieces) name)
      → option_or (cond (is_some value) None (Some (name_of of))) (first_undefined (values_in known) pieces) ≡ Some name
      → Told (missed_in_hole outset of ++ flat_map (missed_in_part outset) pieces) name
  hole_undefined of None pieces name is later told =
      let one : name_of of ≡ name = cc in
      told_left outset (environment_in known) so (missed_in_hole outset of) (flat_map (missed_in_part outset) pieces) name (subst (Told (missed_in_hole outset of)) one (hole_missed of is))
  hole_undefined of (Some value) pieces name is later told =
      told_right outset (environment_in known) so (missed_in_hole outset of) (flat_map (missed_in_part outset) pieces) name (later told)

  parts_missed : (pieces : List Part) (name : Name) → first_undefined (values_in known) pieces ≡ Some name → Told (flat_map (missed_in_part outset) pieces) name
  parts_missed [] name is = absurd (cc)
  parts_missed (plain bytes ∷ pieces) name is = parts_missed pieces name is
  parts_missed (braces ∷ pieces) name is = parts_missed pieces name is
  parts_missed (hole of ∷ pieces) name is = hole_undefined of (values_in known of) pieces name refl (parts_missed pieces name) is

  rest_ends : (long : Bool) (bytes : List ℕ) (rest : Request) (name : Name) → with_word (if long then ended ending.not_started else text bytes) rest ≡ settled (ending.undefined name)
      → rest ≡ settled (ending.undefined name)
  rest_ends true bytes rest name is = absurd (cc)
  rest_ends false bytes (job words) name is = absurd (cc)
  rest_ends false bytes (settled end) name is = is

  word_missed : (word : List ℕ) (words : List (List ℕ)) (undefined : Option Name) (rest : Request) (name : Name) → first_undefined (values_in known) (parts_of word) ≡ undefined
      → (rest ≡ settled (ending.undefined name) → Told (missed_in_words outset words) name) → with_word (worded_by undefined (rendered (values_in known) word)) rest ≡ settled (ending.undefined name)
      → Told (missed_in_word outset word ++ missed_in_words outset words) name
  word_missed word words (Some other) rest name so_far later is =
      let one : other ≡ name = cc in
      told_left outset (environment_in known) so (missed_in_word outset word) (missed_in_words outset words) name (parts_missed (parts_of word) name (so_far ∙ ap Some one))
  word_missed word words None rest name so_far later is =
      told_right outset (environment_in known) so (missed_in_word outset word) (missed_in_words outset words) name
      (later (rest_ends (nat_lt max_rendered (length (rendered (values_in known) word))) (rendered (values_in known) word) rest name is))

  words_missed : (words : List (List ℕ)) (name : Name) → words_asked (values_in known) words ≡ settled (ending.undefined name) → Told (missed_in_words outset words) name
  words_missed [] name is = absurd (cc)
  words_missed (word ∷ words) name is =
      word_missed word words (first_undefined (values_in known) (parts_of word)) (words_asked (values_in known) words) name refl (words_missed words name) is

  pub if_missed : (condition : Option Cond) (stays : Bool) (name : Name) → decided (environment_in known) condition stays ≡ Err name → Told (outlook_if outset condition).missed name
  if_missed None stays name is = absurd (cc)
  if_missed (Some condition) stays name is = (condition_foreseen outset (environment_in known) condition so).missed name is

  if_known : (condition : Option Cond) (foreseen : Bool) → decided (environment_in known) condition true ≡ Ok true → (outlook_if outset condition).holds ≡ Some foreseen → true ≡ foreseen
  if_known None foreseen is known_so = cc
  if_known (Some condition) foreseen is known_so = (condition_foreseen outset (environment_in known) condition so).known true foreseen is known_so

  pub runs_on : (step : Step) → is_to_run (environment_in known) step ≡ Ok true → decides false (outlook_if outset step.when).holds ≡ false
  runs_on step is =
      goes_on outset (environment_in known) so false (outlook_if outset step.when).holds true refl (λ foreseen known_so. if_known step.when foreseen is known_so)

  abbrev run_names : Step → List Name
  run_names step = missed_in_words outset step.words ++ missed_behind outset step

  pub told_if_run : (step : Step) (name : Name) → is_to_run (environment_in known) step ≡ Ok true → Told (run_names step) name → Told (missed_by outset step) name
  told_if_run step name is told =
      told_right outset (environment_in known) so (outlook_if outset step.when).missed (missed_if_run outset (outlook_if outset step.when).holds step) name
      (subst (λ (names : List Name). Told names name) (sym (behind_same outset (environment_in known) so false (outlook_if outset step.when).holds (run_names step) (runs_on step is))) told)

  asked_missed : (step : Step) (name : Name) (verdict : Verdict) → is_to_run (environment_in known) step ≡ verdict
      → asked_if verdict (words_asked (values_in known) step.words) ≡ settled (ending.undefined name) → Told (missed_by outset step) name
  asked_missed step name (Err other) so_far is =
      let one : other ≡ name = cc in
      told_left outset (environment_in known) so (outlook_if outset step.when).missed (missed_if_run outset (outlook_if outset step.when).holds step) name
      (if_missed step.when true name (so_far ∙ ap Err one))
  asked_missed step name (Ok false) so_far is = absurd (cc)
  asked_missed step name (Ok true) so_far is =
      told_if_run step name so_far
      (told_left outset (environment_in known) so (missed_in_words outset step.words) (missed_behind outset step) name (words_missed step.words name is))

  pub asks_missed : (step : Step) (name : Name) → asks known step ≡ settled (ending.undefined name) → Told (missed_by outset step) name
  asks_missed step name is = asked_missed step name (is_to_run (environment_in known) step) refl is

  lacks_so : (name : Name) → accords.LacksCode outset (environment_in known) name → (of : Row) × (known.results name ≡ Some of) × (of.rc ≡ None)
  lacks_so name lacks =
      without_code (known.results name) (known.variables.variable name)
      (subst (λ (standing : NameStatus). Fits standing (known.results name) (known.variables.variable name)) lacks.stands (fits name)) lacks.lacks

  pub told_or_lacks : (names : List Name) (name : Name) → Told names name → (is_among name names ≡ true) ⊎ LacksCode known name
  told_or_lacks names name (inl is) = inl is
  told_or_lacks names name (inr lacks) =
      let found = lacks_so name lacks in inr (record { row = found.0; has = found.1; lacks = found.2 })

once_told : (outset : InitialEnv) (known : Known) (step : Step) (name : Name) → (is_among name (missed_by outset step) ≡ true) ⊎ LacksCode known name
    → (is_among name (missed_names outset step) ≡ true) ⊎ LacksCode known name
once_told outset known step name (inl is) = inl (among_once (missed_by outset step) [] name is)
once_told outset known step name (inr lacks) = inr lacks

pub asks_for_told : AsksForToldNames
asks_for_told past start known step name follows is =
    let outset = outset_of past start in
    let fits = name_fits past start known follows in
    let so = accords_before past start known follows in
    once_told outset known step name (told_or_lacks outset known fits so (missed_by outset step) name (asks_missed outset known fits so step name is))

-- only a step whose `when` holds comes to its program
to_run : (verdict : Verdict) (words : Request) (given : List (List ℕ)) → asked_if verdict words ≡ job given → verdict ≡ Ok true
to_run (Ok true) words given is = refl
to_run (Ok false) words given is = absurd (cc)
to_run (Err name) words given is = absurd (cc)

first_of_two : (changed failed : Verdict) (name : Name) → first_name changed failed ≡ Some name → (changed ≡ Err name) ⊎ (failed ≡ Err name)
first_of_two (Err other) failed name is = inl (let one : other ≡ name = cc in ap Err one)
first_of_two (Ok b) (Err other) name is = inr (let one : other ≡ name = cc in ap Err one)
first_of_two (Ok b) (Ok c) name is = absurd (cc)

-- the step's own result has a return code
module _ (past : EarlierSteps) (start known : Known) (step : Step) (rc : ℤ) (stdout stderr : List ℕ) (follows : Follows past start known) where
  abbrev row : Row
  row = table_row (ending.ran rc stdout stderr)

  abbrev after : Known
  after = with_result (register_of step) row known

  abbrev outset : InitialEnv
  outset = outset_of past start

  own_has_code : (name : Name) (called : Bool) (of : Row) → is_called (register_of step) name ≡ called → cond called (Some row) (known.results name) ≡ Some of → of.rc ≡ None → LacksCode known name
  own_has_code name true of is same none =
      let one : row ≡ of = cc in
      let code : row.rc ≡ None = ap (λ (row : Row). row.rc) one ∙ none in
      absurd (cc)
  own_has_code name false of is same none = record { row = of; has = same; lacks = none }

  before_too : (name : Name) → LacksCode after name → LacksCode known name
  before_too name lacks =
      own_has_code name (is_called (register_of step) name) lacks.row refl lacks.has lacks.lacks

  after_told : (names : List Name) (name : Name) → IsForetold (behind step outset) (environment_in after) names name → (is_among name names ≡ true) ⊎ LacksCode known name
  after_told names name told =
      by_case (told_or_lacks (behind step outset) after (behind_fits outset known step row (name_fits past start known follows)) (accords_behind past start known step row follows) names name told)
    where
      by_case : (is_among name names ≡ true) ⊎ LacksCode after name → (is_among name names ≡ true) ⊎ LacksCode known name
      by_case (inl is) = inl is
      by_case (inr lacks) = inr (before_too name lacks)

  behind_told : (name : Name) → (decided (environment_in after) step.changed_when row.changed ≡ Err name) ⊎ (decided (environment_in after) step.failed_when row.failed ≡ Err name)
      → IsForetold (behind step outset) (environment_in after) (missed_behind outset step) name
  behind_told name (inl is) =
      told_left (behind step outset) (environment_in after) (accords_behind past start known step row follows) (outlook_if (behind step outset) step.changed_when).missed
      (outlook_if (behind step outset) step.failed_when).missed name
      (if_missed (behind step outset) after (behind_fits outset known step row (name_fits past start known follows)) (accords_behind past start known step row follows) step.changed_when row.changed name is)
  behind_told name (inr is) =
      told_right (behind step outset) (environment_in after) (accords_behind past start known step row follows) (outlook_if (behind step outset) step.changed_when).missed
      (outlook_if (behind step outset) step.failed_when).missed name
      (if_missed (behind step outset) after (behind_fits outset known step row (name_fits past start known follows)) (accords_behind past start known step row follows) step.failed_when row.failed name is)

  run_told : (name : Name) → is_to_run (environment_in known) step ≡ Ok true → (is_among name (missed_behind outset step) ≡ true) ⊎ LacksCode known name
      → (is_among name (missed_by outset step) ≡ true) ⊎ LacksCode known name
  run_told name runs (inr lacks) = inr lacks
  run_told name runs (inl is) =
      let fits = name_fits past start known follows in
      let so = accords_before past start known follows in
      told_or_lacks outset known fits so (missed_by outset step) name
      (told_if_run outset known fits so step name runs (told_right outset (environment_in known) so (missed_in_words outset step.words) (missed_behind outset step) name (inl is)))

  pub judged_told : (words : List (List ℕ)) (name : Name) → asks known step ≡ job words → undefined_by (environment_in after) step row ≡ Some name → IsTold past start known step name
  judged_told words name asked is =
      once_told outset known step name
      (run_told name (to_run (is_to_run (environment_in known) step) (words_asked (values_in known) step.words) words asked)
      (after_told (missed_behind outset step) name
      (behind_told name (first_of_two (decided (environment_in after) step.changed_when row.changed) (decided (environment_in after) step.failed_when row.failed) name is))))

pub judges_by_told : JudgesByToldNames
judges_by_told past start known step words (ending.ran rc stdout stderr) name follows asked is = judged_told past start known step rc stdout stderr follows words name asked is
judges_by_told past start known step words ending.not_started name follows asked is = absurd (cc)
judges_by_told past start known step words ending.lost name follows asked is = absurd (cc)
judges_by_told past start known step words ending.skipped name follows asked is = absurd (cc)
judges_by_told past start known step words (ending.undefined other) name follows asked is = absurd (cc)

pub skipped_run_nothing : SkippedStepsRunNothing
skipped_run_nothing past start known step words follows skipped is =
    let outset = outset_of past start in
    let runs : is_to_run (environment_in known) step ≡ Ok true = to_run (is_to_run (environment_in known) step) (words_asked (values_in known) step.words) words is in
    let goes : decides false (outlook_if outset step.when).holds ≡ false = runs_on outset known (name_fits past start known follows) (accords_before past start known follows) step runs in
    absurd (let both : true ≡ false = sym skipped ∙ goes in cc)
