-- What keepers have kept of a run is what its journal holds.
use Rattle.std.proofs.Common.{◌≡◌, ◌⊎◌, inl, inr, ℕ, Bool, true, false, Option, Some, None, List, [], ◌∷◌, length, map, Result, Ok, Err, refl, subst, sym, ◌∙◌}
use Rattle.std.specs.Prelude.{◌==◌, IfErr, IfOk, IfSome, option_map}
use Rattle.command_line.specs.declared.command.Source.{Source}
use Rattle.cond.proofs.Conjunctions.{nothing}
use Rattle.std.specs.List.{list_all}
use Rattle.std.proofs.lemmas.List.{append_cancel_left}
use Rattle.domains.specs.FleetViews.{FleetView}
use Rattle.event_log.specs.Events.{Event}
use Rattle.journal.specs.Entries.{entries_text}
use Rattle.journal_writer.specs.Beginnings.{HasHead}
use Rattle.journal_writer.specs.Keepings.{IsHeld, Keeps}
use Rattle.journal_writer.specs.Laws.{told}
use Rattle.journal_writer.specs.Resumings.{AddsAgain, told_again}
use Rattle.journal_writer.specs.Taken.{IsTaken, KeepsRun}
use Rattle.journal_writer.proofs.KeeperLemmas.{continuer_takes, keeper_takes}
use Rattle.journal_writer.proofs.KeptLemmas.{any_run, ended_run, is_later, run_ahead}
use Rattle.play_model.specs.declared.play.Play.{Play}
use Rattle.roll_run.specs.Histories.{Gains}
use Rattle.roll_run.specs.Journals.{HasKept, JournalEntry, heading}
use Rattle.roll_run.proofs.Following.{gains_as}
use Rattle.run_command.specs.Keepings.{KeepsAheadFrom, KeepsBroken, KeepsFrom, KeepsRuns}
use Rattle.run_command.specs.declared.end.RunEnd.{RunEnd}
use Rattle.run_command.specs.declared.fault.RunTextFault.{RunTextFault}
use Rattle.rollout.specs.Kept.{KeepsBegun, KeepsMended, KeepsNew, KeepsTo, OfInputsOrNothing, has_ended}
use Rattle.rollout.specs.Systems.{Sources}
use Rattle.rollout.specs.declared.fault.Fault.{Fault}
use Rattle.rollout.specs.declared.status.Status.{Status}
use Rattle.rollout.proofs.Rolling.{Ended}

-- a history gained the same logs, of which both are known
pub gains_both : {Is Are : List (List Event) → Type 0} (old new : List (List Event)) → Gains old new Is → Gains old new Are → Gains old new (λ logs. Is logs × Are logs)
gains_both {Is} {Are} old new one other =
    let same : other.logs ≡ one.logs = append_cancel_left old other.logs one.logs (sym other.grown ∙ one.grown) in
    record { logs = one.logs; grown = one.grown; are = (one.are, subst Are same other.are) }

pub if_some : {A : Type 0} (Is : A → Type 0) (given : Option A) → ((a : A) → Is a) → IfSome given Is
if_some Is None all = tt
if_some Is (Some a) all = all a

pub if_some_as : {A : Type 0} (Is Are : A → Type 0) (given : Option A) → ((a : A) → Is a → Are a) → IfSome given Is → IfSome given Are
if_some_as Is Are None then is = tt
if_some_as Is Are (Some a) then is = then a is

-- a run ended only if its keeper tells that nothing is lacking
pub kept_to : {K : Type 0} (KeepsAll KeepsMore : K → K → List (List Event) → Type 0) (is_whole : K → Bool) (first last : K) (ran : Result RunEnd RunTextFault) (whole : Bool) (result : Result Status Fault) (before after : List (List Event))
    → Ended ran whole result → whole ≡ is_whole last → IfOk ran (λ end. Gains before after (KeepsAll first last)) → IfErr ran (λ fault. Gains before after (KeepsMore first last))
    → Gains before after (KeepsTo KeepsAll KeepsMore is_whole first result)
kept_to KeepsAll KeepsMore is_whole first last (Ok end) true result before after is whole all more =
    subst (λ (r : Result Status Fault). Gains before after (KeepsTo KeepsAll KeepsMore is_whole first r)) (sym is) (gains_as before after (λ logs keeps. (last, keeps, sym whole)) all)
kept_to KeepsAll KeepsMore is_whole first last (Ok end) false result before after is whole all more =
    subst (λ (r : Result Status Fault). Gains before after (KeepsTo KeepsAll KeepsMore is_whole first r)) (sym is) (gains_as before after (λ logs keeps. (last, inl keeps)) all)
kept_to KeepsAll KeepsMore is_whole first last (Err fault) whole result before after is same all more =
    subst (λ (r : Result Status Fault). Gains before after (KeepsTo KeepsAll KeepsMore is_whole first r)) (sym is) (gains_as before after (λ logs keeps. (last, inr keeps)) more)

-- who keeps a run that begins
module _ {K F : Type 0} (contents : F → Option (List ℕ)) (is_new : F → List ℕ → Type 0) (is_cut : F → List ℕ → ℕ → Type 0) (named inventory playbook : K → List ℕ) (file : K → Option F) (whole : K → Bool)
    (on_disk : Option F → Type 0) where
  abbrev keeps : K → K → FleetView → JournalEntry → Type 0
  keeps before after fleet entry =
      Keeps contents (λ f. is_new f (named before)) (inventory before) (playbook before) fleet entry (file before) (whole before) (file after) (whole after) × IsHeld on_disk entry (file after) (whole after)

  module _ (keeper : K) where
    abbrev text_of : FleetView → List JournalEntry → List ℕ
    text_of fleet entries = entries_text fleet (told (inventory keeper) (playbook keeper) entries)

    takes : (fleet : FleetView) (plays : ℕ) (after : K) (entries : List JournalEntry) → list_all is_later entries ≡ true → HasKept keeps fleet keeper after (heading plays ∷ entries)
        → IsTaken contents (λ f. is_new f (named keeper)) (text_of fleet) (heading plays ∷ entries) (whole after)
    takes fleet plays after entries later kept = keeper_takes contents (λ k f. is_new f (named k)) inventory playbook file whole on_disk fleet keeper after plays entries later kept

    new_kept : (result : Result Status Fault) (logs : List (List Event))
        → KeepsTo (KeepsRuns keeps (inventory keeper) (playbook keeper)) (KeepsBroken keeps (inventory keeper) (playbook keeper)) whole keeper result logs
        → KeepsNew contents is_new is_cut (named keeper) (inventory keeper) (playbook keeper) result logs
    new_kept (Ok status) logs to =
        let runs = to.1 in
        let from = runs.keeps_from in
        inr (record {
          fleet = runs.fleet;
          vars = runs.vars;
          plays = runs.plays;
          starts = runs.statuses;
          inputs = runs.inputs;
          keeps = ended_run keeps runs.fleet contents (λ f. is_new f (named keeper)) (text_of runs.fleet) (whole to.0) (length runs.plays) keeper from.begun to.0 from.begins (takes runs.fleet (length runs.plays) to.0)
              from.ends logs from.kept to.2;
        })
    new_kept (Err fault) logs to = by to.1
      where
        by : KeepsRuns keeps (inventory keeper) (playbook keeper) keeper to.0 logs ⊎ KeepsBroken keeps (inventory keeper) (playbook keeper) keeper to.0 logs
            → KeepsNew contents is_new is_cut (named keeper) (inventory keeper) (playbook keeper) (Err fault) logs
        by (inl runs) =
            let from = runs.keeps_from in
            inr (record {
              fleet = runs.fleet;
              vars = runs.vars;
              plays = runs.plays;
              starts = runs.statuses;
              inputs = runs.inputs;
              keeps = any_run keeps runs.fleet contents (λ f. is_new f (named keeper)) (text_of runs.fleet) (whole to.0) (length runs.plays) keeper from.begun to.0 from.begins
                  (takes runs.fleet (length runs.plays) to.0) (map Some from.ends) logs from.kept;
            })
        by (inr (inl none)) = inl (none.0, refl)
        by (inr (inr runs)) =
            let from = runs.keeps_from in
            inr (record {
              fleet = runs.fleet;
              vars = runs.vars;
              plays = runs.plays;
              starts = runs.statuses;
              inputs = runs.inputs;
              keeps = run_ahead keeps runs.fleet contents (λ f. is_new f (named keeper)) (text_of runs.fleet) (whole to.0) (length runs.plays) keeper from.begun to.0 from.begins
                  (takes runs.fleet (length runs.plays) to.0) from.ends logs from.ahead;
            })

  pub texts_are_kept : (keeper : K) (name first second : List ℕ) (result : Result Status Fault) (logs : List (List Event)) → named keeper ≡ name → inventory keeper ≡ first → playbook keeper ≡ second
      → KeepsTo (KeepsRuns keeps first second) (KeepsBroken keeps first second) whole keeper result logs → KeepsNew contents is_new is_cut name first second result logs
  texts_are_kept keeper name first second result logs name_is first_is second_is =
      subst (λ (n : List ℕ). KeepsTo (KeepsRuns keeps first second) (KeepsBroken keeps first second) whole keeper result logs → KeepsNew contents is_new is_cut n first second result logs) name_is
      (subst (λ (i : List ℕ). KeepsTo (KeepsRuns keeps i second) (KeepsBroken keeps i second) whole keeper result logs → KeepsNew contents is_new is_cut (named keeper) i second result logs) first_is
      (subst (λ (p : List ℕ). KeepsTo (KeepsRuns keeps (inventory keeper) p) (KeepsBroken keeps (inventory keeper) p) whole keeper result logs
      → KeepsNew contents is_new is_cut (named keeper) (inventory keeper) p result logs) second_is (new_kept keeper result logs)))

-- who keeps one that goes on
module _ {K F L : Type 0} (contents : F → Option (List ℕ)) (file : K → F) (whole : K → Bool) (named : K → L) (numbers : L → List ℕ) (going : K → Bool) (on_disk : F → Type 0) where
  abbrev keeps_again : K → K → FleetView → JournalEntry → Type 0
  keeps_again before after fleet entry =
      AddsAgain contents (numbers (named before)) (going before) fleet entry (file before) (whole before) (file after) (whole after) (going after) × (named after ≡ named before)
      × IsHeld on_disk entry (file after) (whole after)

  module _ (keeper : K) (is_whole : whole keeper ≡ true) (fleet : FleetView) (plays : List Play) where
    abbrev text_again : List JournalEntry → List ℕ
    text_again entries = entries_text fleet (told_again (numbers (named keeper)) (going keeper) entries)

    takes_again : (after : K) (entries : List JournalEntry) → list_all is_later entries ≡ true → HasKept keeps_again fleet keeper after (heading (length plays) ∷ entries)
        → IsTaken contents (λ first. first ≡ file keeper) text_again (heading (length plays) ∷ entries) (whole after)
    takes_again after entries later kept =
        inl (record {
          first = file keeper;
          is_first = refl;
          now = contents (file after);
          takes = continuer_takes contents file whole named numbers going on_disk fleet keeper after (heading (length plays) ∷ entries) is_whole kept;
        })

    rest_kept : (result : Result Status Fault) (logs : List (List Event)) → KeepsTo (KeepsFrom keeps_again fleet plays) (KeepsAheadFrom keeps_again fleet plays) whole keeper result logs
        → KeepsRun contents (λ first. first ≡ file keeper) text_again fleet (length plays) (has_ended result) logs
    rest_kept (Ok status) logs to =
        let from = to.1 in
        ended_run keeps_again fleet contents (λ first. first ≡ file keeper) text_again (whole to.0) (length plays) keeper from.begun to.0 from.begins (takes_again to.0) from.ends logs from.kept to.2
    rest_kept (Err fault) logs to = by to.1
      where
        by : KeepsFrom keeps_again fleet plays keeper to.0 logs ⊎ KeepsAheadFrom keeps_again fleet plays keeper to.0 logs
            → KeepsRun contents (λ first. first ≡ file keeper) text_again fleet (length plays) false logs
        by (inl from) =
            any_run keeps_again fleet contents (λ first. first ≡ file keeper) text_again (whole to.0) (length plays) keeper from.begun to.0 from.begins (takes_again to.0) (map Some from.ends) logs from.kept
        by (inr from) = run_ahead keeps_again fleet contents (λ first. first ≡ file keeper) text_again (whole to.0) (length plays) keeper from.begun to.0 from.begins (takes_again to.0) from.ends logs from.ahead

  pub rest_is_kept : (keeper : K) (begun : F) (mended : List ℕ) (goes_on : Bool) (fleet : FleetView) (plays : List Play) (result : Result Status Fault) (logs : List (List Event))
      → whole keeper ≡ true → file keeper ≡ begun → numbers (named keeper) ≡ mended → going keeper ≡ goes_on
      → KeepsTo (KeepsFrom keeps_again fleet plays) (KeepsAheadFrom keeps_again fleet plays) whole keeper result logs
      → KeepsRun contents (λ first. first ≡ begun) (λ entries. entries_text fleet (told_again mended goes_on entries)) fleet (length plays) (has_ended result) logs
  rest_is_kept keeper begun mended goes_on fleet plays result logs is_whole file_is mended_is going_is to =
      subst (λ (f : F). KeepsRun contents (λ first. first ≡ f) (λ entries. entries_text fleet (told_again mended goes_on entries)) fleet (length plays) (has_ended result) logs) file_is
      (subst (λ (m : List ℕ). KeepsRun contents (λ first. first ≡ file keeper) (λ entries. entries_text fleet (told_again m goes_on entries)) fleet (length plays) (has_ended result) logs) mended_is
      (subst (λ (g : Bool). KeepsRun contents (λ first. first ≡ file keeper) (λ entries. entries_text fleet (told_again (numbers (named keeper)) g entries)) fleet (length plays) (has_ended result) logs) going_is
      (rest_kept keeper is_whole fleet plays result logs to)))

-- what is so of the first state of a file may be said in other words
pub kept_as : {F : Type 0} (contents : F → Option (List ℕ)) (IsFirst IsThen : F → Type 0) (text_of : List JournalEntry → List ℕ) (fleet : FleetView) (plays : ℕ) (ended : Bool) (logs : List (List Event))
    → ((file : F) → IsFirst file → IsThen file) → KeepsRun contents IsFirst text_of fleet plays ended logs → KeepsRun contents IsThen text_of fleet plays ended logs
kept_as contents IsFirst IsThen text_of fleet plays ended logs so keeps = record { entries = keeps.entries; are = keeps.are; taken = by keeps.taken }
  where
    by : IsTaken contents IsFirst text_of (heading plays ∷ keeps.entries) ended → IsTaken contents IsThen text_of (heading plays ∷ keeps.entries) ended
    by (inl takes) = inl (record { first = takes.first; is_first = so takes.first takes.is_first; now = takes.now; takes = takes.takes })
    by (inr none) = inr none

-- the head of a new journal, where its name, the number of plays and the file are called otherwise
pub own_head : {F : Type 0} (contents : F → Option (List ℕ)) (is_new : F → List ℕ → Type 0) (given name : List ℕ) (fleet : FleetView) (inventory playbook : List ℕ) (count plays : ℕ) (file begun : F)
    → given ≡ name → count ≡ plays → file ≡ begun → HasHead contents (λ f. is_new f given) fleet inventory playbook count begun → HasHead contents (λ f. is_new f name) fleet inventory playbook plays file
own_head contents is_new given name fleet inventory playbook count plays file begun named counted is head =
    subst (HasHead contents (λ f. is_new f name) fleet inventory playbook plays) (sym is)
    (subst (λ (n : ℕ). HasHead contents (λ f. is_new f name) fleet inventory playbook n begun) counted
    (subst (λ (n : List ℕ). HasHead contents (λ f. is_new f n) fleet inventory playbook count begun) named head))

-- a run that begins is kept as its journal and the hosts that are up by now are given
module _ {F T : Type 0} (contents : F → Option (List ℕ)) (is_new : F → List ℕ → Type 0) (is_cut : F → List ℕ → ℕ → Type 0) (bytes : T → List ℕ) (sources : Sources) (inventory playbook : Source)
    (input_old input_new : Option (List ℕ)) (result : Result Status Fault) (before after : List (List Event)) where
  abbrev Begins : Option T → List ℕ → Type 0
  Begins journal names = Gains before after (KeepsBegun contents is_new is_cut (option_map bytes journal) names sources inventory playbook input_old input_new result)

  pub begins_new : {Is : List (List Event) → Type 0} (journal : Option T) (names : List ℕ) → (length names == 0) ≡ true → Gains before after Is
      → IfSome journal (λ name. Gains before after (OfInputsOrNothing (KeepsNew contents is_new is_cut (bytes name)) sources inventory playbook input_old input_new result)) → Begins journal names
  begins_new None names none any is = gains_as before after (λ logs kept. tt) any
  begins_new (Some name) [] none any is = is
  begins_new (Some name) (byte ∷ names) none any is = let clash : byte ∷ names ≡ [] = nothing (byte ∷ names) none in absurd (cc)

  pub begins_mended : {Is : List (List Event) → Type 0} (journal : Option T) (names : List ℕ) → (length names == 0) ≡ false → Gains before after Is
      → IfSome journal (λ name. Gains before after (OfInputsOrNothing (KeepsMended contents is_new is_cut (bytes name) names) sources inventory playbook input_old input_new result)) → Begins journal names
  begins_mended None names some any is = gains_as before after (λ logs kept. tt) any
  begins_mended (Some name) [] some any is = absurd (cc)
  begins_mended (Some name) (byte ∷ names) some any is = is
