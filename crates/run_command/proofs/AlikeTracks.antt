-- What a host does in two plays that are alike.
use Rattle.std.proofs.Common.{◌≡◌, ℕ, zero, suc, ◌-◌, nat_lt, Bool, true, not, ◌&&◌, ◌||◌, Option, None, Some, Ok, Err, List, [], ◌∷◌, ◌++◌, length, refl, sym, ap, ap₂, ◌∙◌}
use Rattle.std.specs.List.{AllZip}
use Rattle.std.specs.Prelude.{slice_get, if◌then◌else◌}
use Rattle.std.proofs.lemmas.Slice.Zip.{AllZip-long}
use Rattle.fleet_index.specs.NumberLists.{has_number}
use Rattle.cond.specs.Meaning.{Environment, Verdict}
use Rattle.group_tree.specs.Names.{Name}
use Rattle.play_model.specs.Results.{Row}
use Rattle.host_track.specs.declared.finding.Finding.{Finding}
use Rattle.host_track.specs.declared.flags.Flags.{Flags}
use Rattle.host_track.specs.Counting.{does_notify}
use Rattle.host_track.specs.Endings.{Ending, ran, not_started, lost, skipped, undefined, table_row}
use Rattle.host_track.specs.Hosts.{Known, environment_in, values_in, with_result}
use Rattle.host_track.specs.Judging.{changed_by, decided, failed_by, finding_of, flags_of, flags_of_run, judged_as, register_of, registered_row}
use Rattle.host_track.specs.Asking.{Request, asked_if, asks, end_of, is_to_run, words_asked}
use Rattle.host_track.specs.Tracks.{Column, Entry, handlers_of, has_failed, is_due, is_notified, known_after, known_with, row_at, row_if_due, step_at, track, whole_track}
use Rattle.play_model.specs.declared.play.Play.{Play}
use Rattle.play_model.specs.declared.step.Step.{Step}
use Rattle.run_command.proofs.AlikePlays.{AreAlikePlays, AreAlikeSteps}

-- the two are alike, or neither is there
AlikeAt : Option Step → Option Step → Type 0
AlikeAt None None = Unit {0}
AlikeAt None (Some other) = ⊥
AlikeAt (Some step) None = ⊥
AlikeAt (Some step) (Some other) = AreAlikeSteps step other

alike_at : (steps others : List Step) → AllZip AreAlikeSteps steps others → (place : ℕ) → AlikeAt (slice_get steps place) (slice_get others place)
unfolding AlikeAt
alike_at [] [] alike place = tt
alike_at [] (o ∷ os) alike place = absurd alike
alike_at (s ∷ ss) [] alike place = absurd alike
alike_at (s ∷ ss) (o ∷ os) alike zero = alike.0
alike_at (s ∷ ss) (o ∷ os) alike (suc place) = alike_at ss os alike.1 place

module _ (step other : Step) (alike : AreAlikeSteps step other) where
  same_asks : (known : Known) → asks known step ≡ asks known other
  same_asks known =
      ap (λ (v : Verdict). asked_if v (words_asked (values_in known) step.words)) (alike.when (environment_in known) true)
      ∙ ap (λ (words : List (List ℕ)). asked_if (is_to_run (environment_in known) other) (words_asked (values_in known) words)) alike.words

  same_changed : (e : Environment) (row : Row) (v : Verdict) → changed_by e step row v ≡ changed_by e other row v
  same_changed e row (Ok changed) = ap (failed_by changed) (alike.failed_when e row.failed)
  same_changed e row (Err name) = refl

  same_flags_run : (e : Environment) (row : Row) → flags_of_run e step row ≡ flags_of_run e other row
  same_flags_run e row =
      ap (changed_by e step row) (alike.changed_when e row.changed) ∙ same_changed e row (decided e other.changed_when row.changed)

  same_flags : (known : Known) (ending : Ending) → flags_of known step ending ≡ flags_of known other ending
  same_flags known (ran rc stdout stderr) =
      let row : Row = table_row (ran rc stdout stderr) in
      same_flags_run (environment_in (with_result (register_of step) row known)) row
      ∙ ap (λ (name : Option Name). flags_of_run (environment_in (with_result name row known)) other row) alike.register
  same_flags known not_started = refl
  same_flags known lost = refl
  same_flags known skipped = refl
  same_flags known (undefined name) = refl

  same_finding : (known : Known) (ending : Ending) → finding_of known step ending ≡ finding_of known other ending
  same_finding known ending =
      ap (λ (flags : Flags). found step.ignore_errors ending flags) (same_flags known ending)
      ∙ ap (λ (ignores : Bool). found ignores ending (flags_of known other ending)) alike.ignore_errors
    where
      found : Bool → Ending → Flags → Finding
      found ignores ending flags = record { changed = flags.changed; failed = flags.failed; judged = judged_as ignores ending flags }

same_row : (known : Known) (step other : Option Step) (place : ℕ) (given : Ending) → AlikeAt step other → row_at known step place given ≡ row_at known other place given
unfolding AlikeAt
same_row known None None place given alike = refl
same_row known None (Some other) place given alike = absurd alike
same_row known (Some step) None place given alike = absurd alike
same_row known (Some step) (Some other) place given alike =
    let ends : end_of (asks known step) given ≡ end_of (asks known other) given = ap (λ (r : Request). end_of r given) (same_asks step other alike known) in
    ap (λ (ending : Ending). row ending (finding_of known step ending)) ends
    ∙ ap (row (end_of (asks known other) given)) (same_finding step other alike known (end_of (asks known other) given))
  where
    row : Ending → Finding → List Entry
    row ending finding = (record { step = place; ending = ending; finding = finding; owes = known.owes }) ∷ []

same_handlers : (step other : Option Step) → AlikeAt step other → handlers_of step ≡ handlers_of other
unfolding AlikeAt
same_handlers None None alike = refl
same_handlers None (Some other) alike = absurd alike
same_handlers (Some step) None alike = absurd alike
same_handlers (Some step) (Some other) alike = alike.notify

same_known_with : (known : Known) (step other : Option Step) (entry : Entry) → AlikeAt step other → known_with known step entry ≡ known_with known other entry
unfolding AlikeAt
same_known_with known None None entry alike = refl
same_known_with known None (Some other) entry alike = absurd alike
same_known_with known (Some step) None entry alike = absurd alike
same_known_with known (Some step) (Some other) entry alike =
    ap (λ (name : Option Name). with_result name (registered_row entry.ending entry.finding) known) alike.register

module _ (play other : Play) (alike : AreAlikePlays play other) where
  here : (place : ℕ) → AlikeAt (step_at play place) (step_at other place)
  here place = alike_at play.steps.items other.steps.items alike.steps place

  same_notified : (entries : List Entry) (handler : ℕ) → is_notified play entries handler ≡ is_notified other entries handler
  same_notified [] handler = refl
  same_notified (entry ∷ entries) handler =
      ap₂ ◌||◌ (ap (λ (handlers : List ℕ). entry.owes || (does_notify entry.finding.judged && has_number handler handlers)) (same_handlers (step_at play entry.step) (step_at other entry.step) (here entry.step)))
      (same_notified entries handler)

  same_due : (entries : List Entry) (place : ℕ) → is_due play entries place ≡ is_due other entries place
  same_due entries place =
      ap (λ (tasks : ℕ). not (has_failed entries) && (nat_lt place tasks || is_notified play entries (place - tasks))) alike.tasks
      ∙ ap (λ (b : Bool). not (has_failed entries) && (nat_lt place other.tasks || b)) (same_notified entries (place - other.tasks))

  pub same_known_after : (entries : List Entry) (known : Known) → known_after play known entries ≡ known_after other known entries
  same_known_after [] known = refl
  same_known_after (entry ∷ later) known =
      same_known_after later (known_with known (step_at play entry.step) entry)
      ∙ ap (λ (k : Known). known_after other k later) (same_known_with known (step_at play entry.step) (step_at other entry.step) entry (here entry.step))

  same_if_due : (known : Known) (entries : List Entry) (place : ℕ) (given : Ending) → row_if_due play known entries place given ≡ row_if_due other known entries place given
  same_if_due known entries place given =
      let row : row_at (known_after play known entries) (step_at play place) place given ≡ row_at (known_after other known entries) (step_at other place) place given =
      same_row (known_after play known entries) (step_at play place) (step_at other place) place given (here place)
      ∙ ap (λ (k : Known). row_at k (step_at other place) place given) (same_known_after entries known) in
      ap₂ (λ (b : Bool) (rows : List Entry). if b then rows else []) (same_due entries place) row

  pub same_track : (known : Known) (column : Column) (steps : ℕ) → track play known column steps ≡ track other known column steps
  unfolding track
  same_track known column zero = refl
  same_track known column (suc place) =
      let before = same_track known column place in
      ap (λ (rows : List Entry). rows ++ row_if_due play known rows place (column place)) before
      ∙ ap (λ (rows : List Entry). track other known column place ++ rows) (same_if_due known (track other known column place) place (column place))

  pub same_steps : length play.steps.items ≡ length other.steps.items
  same_steps = sym (AllZip-long AreAlikeSteps play.steps.items other.steps.items alike.steps)

  pub same_whole : (known : Known) (column : Column) → whole_track play known column ≡ whole_track other known column
  same_whole known column =
      ap (track play known column) same_steps ∙ same_track known column (length other.steps.items)
