-- What the journal of a run holds, whatever its end.
use Rattle.std.specs.Prelude.{◌≡◌, ◌⊎◌, ℕ, Bool, true, false, ⊤, List, [], ◌∷◌, length, Option, None, Some, Result, Ok, Err}
use Rattle.command_line.specs.Wishes.{Wish}
use Rattle.command_line.specs.declared.command.Source.{Source}
use Rattle.domains.specs.FleetViews.{FleetView}
use Rattle.domains.specs.Ids.{host_numbers}
use Rattle.event_log.specs.Events.{Event}
use Rattle.fleet_states.specs.declared.status.Status as statuses
use Rattle.host_vars.specs.declared.vars.Vars.{Vars}
use Rattle.play_model.specs.declared.play.Play.{Play}
use Rattle.journal.specs.Entries.{entries_text}
use Rattle.journal.specs.Lines.{IsWholeLength}
use Rattle.journal_writer.specs.Beginnings.{HasHead}
use Rattle.journal_writer.specs.Laws.{told}
use Rattle.journal_writer.specs.Resumings.{told_again}
use Rattle.journal_writer.specs.Taken.{KeepsRun}
use Rattle.resume_state.specs.Resumptions.{IsMendedBeginning}
use Rattle.resume_state.specs.declared.inputs.Resumption.{Resumption}
use Rattle.run_command.specs.Beginnings.{plays_from}
use Rattle.run_command.specs.Inputs.{AreInputs}
use Rattle.rollout.specs.Inputs.{IsTextOfFile, ReadsBoth}
use Rattle.rollout.specs.Resumes.{IsWished, ResumeWish, resume_wish}
use Rattle.rollout.specs.Systems.{Sources}
use Rattle.rollout.specs.declared.fault.Fault.{Fault}
use Rattle.rollout.specs.declared.status.Status.{Status}

-- whether a run ended, as its plays do
abbrev pub has_ended : Result Status Fault → Bool
has_ended (Ok status) = true
has_ended (Err fault) = false

-- nothing was started, and no run ended
abbrev pub StartsNothing : Result Status Fault → List (List Event) → Type 0
StartsNothing result logs = (logs ≡ []) × (has_ended result ≡ false)

-- from one state of a keeper to a later one it kept all of a run that ended, and nothing is lacking; of another it kept all, or that and one entry more
abbrev pub KeepsTo : {K : Type 0} → (K → K → List (List Event) → Type 0) → (K → K → List (List Event) → Type 0) → (K → Bool) → K → Result Status Fault → List (List Event) → Type 0
KeepsTo {K} KeepsAll KeepsMore is_whole before (Ok status) logs = (after : K) × KeepsAll before after logs × (is_whole after ≡ true)
KeepsTo {K} KeepsAll KeepsMore is_whole before (Err fault) logs = (after : K) × (KeepsAll before after logs ⊎ KeepsMore before after logs)

-- the journal of a run of the plays of both texts, in a file that was so at first
pub record KeepsTexts {F : Type 0} (contents : F → Option (List ℕ)) (IsFirst : F → Type 0) (inventory playbook : List ℕ) (result : Result Status Fault) (logs : List (List Event)) : Type 0 where
  pub fleet : FleetView
  pub vars : List Vars
  pub plays : List Play
  pub starts : List statuses.Status
  pub inputs : AreInputs inventory playbook fleet vars plays starts
  pub keeps : KeepsRun contents IsFirst (λ entries. entries_text fleet (told inventory playbook entries)) fleet (length plays) (has_ended result) logs

-- the journal of a run that goes on so
abbrev pub KeepsRest : {F : Type 0} → (F → Option (List ℕ)) → (F → Type 0) → Resumption → Result Status Fault → List (List Event) → Type 0
KeepsRest contents IsFirst resumption result logs =
    KeepsRun contents IsFirst (λ entries. entries_text resumption.fleet (told_again (host_numbers resumption.mended.items) resumption.goes_on entries)) resumption.fleet
    (length (plays_from resumption.beginning resumption.plays.items)) (has_ended result) logs

-- of one with which a run goes on as is wished
pub record KeepsOn {F : Type 0} (contents : F → Option (List ℕ)) (IsFirst : Resumption → F → Type 0) (Is : Resumption → Type 0) (result : Result Status Fault) (logs : List (List Event)) : Type 0 where
  pub resumption : Resumption
  pub wished : Is resumption
  pub keeps : KeepsRest contents (IsFirst resumption) resumption result logs

-- a new file of this name has the head of a run of these texts, with hosts up by now
abbrev pub HasOwnHead : {F : Type 0} → (F → Option (List ℕ)) → (F → Type 0) → List ℕ → List ℕ → Resumption → F → Type 0
HasOwnHead contents is_new inventory playbook resumption file = HasHead contents is_new resumption.fleet inventory playbook (length resumption.plays.items) file

-- the file has so much of the journal as its whole lines, and nothing behind them
abbrev pub IsCutToLines : {F : Type 0} → (F → ℕ → Type 0) → List ℕ → F → Type 0
IsCutToLines is_cut journal file = (count : ℕ) × IsWholeLength journal count × is_cut file count

-- both inputs were read, and this is so of a run of their texts
pub record OfInputs (Is : List ℕ → List ℕ → Result Status Fault → List (List Event) → Type 0) (sources : Sources) (inventory playbook : Source) (input_old input_new : Option (List ℕ)) (result : Result Status Fault) (logs : List (List Event)) : Type 0 where
  pub first : List ℕ
  pub second : List ℕ
  pub texts : ReadsBoth sources inventory playbook input_old input_new first second
  pub is : Is first second result logs

-- the journal of this name was read, and this is so of a run of all three texts
pub record OfJournal (Is : List ℕ → List ℕ → List ℕ → Result Status Fault → List (List Event) → Type 0) (sources : Sources) (name first second : List ℕ) (result : Result Status Fault) (logs : List (List Event)) : Type 0 where
  pub third : List ℕ
  pub journal : IsTextOfFile (sources.known.files name) third
  pub is : Is first second third result logs

-- nothing was started, or both inputs were read, and this is so
abbrev pub OfInputsOrNothing : (List ℕ → List ℕ → Result Status Fault → List (List Event) → Type 0) → Sources → Source → Source → Option (List ℕ) → Option (List ℕ) → Result Status Fault → List (List Event) → Type 0
OfInputsOrNothing Is sources inventory playbook input_old input_new result logs = StartsNothing result logs ⊎ OfInputs Is sources inventory playbook input_old input_new result logs

-- where runs are kept: what is known of the bytes of a file, that it is new under a name, and that it is cut under a name to so many bytes
module _ {F : Type 0} (contents : F → Option (List ℕ)) (is_new : F → List ℕ → Type 0) (is_cut : F → List ℕ → ℕ → Type 0) where
  -- of a run that begins, in a new file of this name
  abbrev pub KeepsNew : List ℕ → List ℕ → List ℕ → Result Status Fault → List (List Event) → Type 0
  KeepsNew name inventory playbook result logs = StartsNothing result logs ⊎ KeepsTexts contents (λ file. is_new file name) inventory playbook result logs

  -- of one that begins with hosts up by now
  abbrev pub KeepsMended : List ℕ → List ℕ → List ℕ → List ℕ → Result Status Fault → List (List Event) → Type 0
  KeepsMended name names inventory playbook result logs =
      StartsNothing result logs ⊎ KeepsOn contents (HasOwnHead contents (λ file. is_new file name) inventory playbook) (IsMendedBeginning inventory playbook names) result logs

  -- of one that goes on, in the file of its journal, cut to its whole lines
  abbrev pub KeepsAgain : ResumeWish → List ℕ → List ℕ → List ℕ → Result Status Fault → List (List Event) → Type 0
  KeepsAgain wish inventory playbook journal result logs =
      StartsNothing result logs
      ⊎ KeepsOn contents (λ resumption. IsCutToLines (λ file count. is_cut file wish.journal count) journal) (IsWished inventory playbook journal wish) result logs

  -- of one that begins, if it has a journal; hosts may be named that are up by now
  abbrev pub KeepsBegun : Option (List ℕ) → List ℕ → Sources → Source → Source → Option (List ℕ) → Option (List ℕ) → Result Status Fault → List (List Event) → Type 0
  KeepsBegun None names sources inventory playbook input_old input_new result logs = ⊤
  KeepsBegun (Some name) [] sources inventory playbook input_old input_new result logs = OfInputsOrNothing (KeepsNew name) sources inventory playbook input_old input_new result logs
  KeepsBegun (Some name) (byte ∷ names) sources inventory playbook input_old input_new result logs =
      OfInputsOrNothing (KeepsMended name (byte ∷ names)) sources inventory playbook input_old input_new result logs

  abbrev pub KeepsResumed : ResumeWish → Sources → Source → Source → Option (List ℕ) → Option (List ℕ) → Result Status Fault → List (List Event) → Type 0
  KeepsResumed wish sources inventory playbook input_old input_new result logs =
      OfInputsOrNothing (OfJournal (KeepsAgain wish) sources wish.journal) sources inventory playbook input_old input_new result logs

  abbrev pub KeepsBy : Option (List ℕ) → Wish → Sources → Source → Source → Option (List ℕ) → Option (List ℕ) → Result Status Fault → List (List Event) → Type 0
  KeepsBy None wish sources inventory playbook input_old input_new result logs = KeepsBegun wish.journal wish.mended sources inventory playbook input_old input_new result logs
  KeepsBy (Some journal) wish sources inventory playbook input_old input_new result logs = KeepsResumed (resume_wish journal wish) sources inventory playbook input_old input_new result logs

  -- whatever a line `run` with what is asked for beside it starts is kept, if a journal is named: in a new file, or in the one from which the run goes on
  abbrev pub KeepsJournal : Wish → Sources → Source → Source → Option (List ℕ) → Option (List ℕ) → Result Status Fault → List (List Event) → Type 0
  KeepsJournal wish sources inventory playbook input_old input_new result logs = KeepsBy wish.from wish sources inventory playbook input_old input_new result logs
