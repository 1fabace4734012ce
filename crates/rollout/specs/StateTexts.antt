-- What the command `state` does with an inventory and a journal.
use Rattle.std.specs.Prelude.{◌≡◌, ◌⊎◌, ℕ, Bool, false, List, Option, None, Some, Result, Ok, Err, if◌then◌else◌, string_bytes}
use Rattle.std.specs.Io.KnownBytes.{Appends, Keeps}
use Rattle.bounded_io.specs.Sending.{SendsFirst}
use Rattle.command_line.specs.declared.command.Source.{Source}
use Rattle.command_line.specs.declared.command.Source.TheVariants.{StandardInput, File}
use Rattle.domains.specs.FleetViews.{FleetView}
use Rattle.fleet_states.specs.declared.status.Status as hosts
use Rattle.play_forecast.specs.declared.end.End.{End}
use Rattle.run_command.specs.Ends.{end_of}
use Rattle.journal.specs.Names.{HasPlainNames}
use Rattle.journal.specs.Standing.{run_end, state_text}
use Rattle.journal.specs.States.{JournalState}
use Rattle.resume_preview.specs.Begun.{IsBegunJournal, RefusesBegun}
use Rattle.resume_state.specs.declared.fault.ResumeFault.{ResumeFault}
use Rattle.rollout.specs.Inputs.{InputUnreadable, ReadsBoth}
use Rattle.rollout.specs.ResumeFaults.{fault_of}
use Rattle.rollout.specs.LimitsText.{IsFleetIn, IsUnread}
use Rattle.rollout.specs.Status.{status_of_run}
use Rattle.rollout.specs.Systems.{IsTold, KnownFiles, Sources}
use Rattle.rollout.specs.declared.fault.Fault.{Fault}
use Rattle.rollout.specs.declared.fault.Fault.TheVariants.{BadJournal, OtherInputs, Write, Memory}
use Rattle.rollout.specs.declared.status.Status.{Status}
use Rattle.rollout.specs.declared.status.Status.TheVariants.{BrokenOff, Running}

-- a run that has not ended goes on, or was broken off
abbrev pub endless_status : Bool → Status
endless_status goes_on = if goes_on then Running else BrokenOff

-- a run that has ended is told as it told itself
abbrev pub status_of_standing : Bool → Option End → List hosts.Status → Status
status_of_standing goes_on (Some end) statuses = status_of_run (end_of end statuses)
status_of_standing goes_on None statuses = endless_status goes_on

abbrev pub status_of_state : Bool → JournalState → Status
status_of_state goes_on state = status_of_standing goes_on (run_end state) state.statuses

-- the text is the journal of a run that began with this inventory, or with another that is meant, and what is told of where it stands went out
pub record TellsStanding (fleet : FleetView) (inventory text : List ℕ) (takes_others goes_on : Bool) (old new : Option (List ℕ)) (status : Status) : Type 0 where
  pub state : JournalState
  pub reads : IsBegunJournal fleet inventory takes_others text state
  pub written : Appends old new (state_text fleet goes_on state)
  pub tells : status ≡ status_of_state goes_on state

-- what was told broke off after so many bytes
pub record BreaksStanding (fleet : FleetView) (inventory text : List ℕ) (takes_others goes_on : Bool) (old new : Option (List ℕ)) (count : ℕ) : Type 0 where
  pub state : JournalState
  pub reads : IsBegunJournal fleet inventory takes_others text state
  pub written : SendsFirst old new (state_text fleet goes_on state) count

-- the journal is refused so, and nothing went out
pub record RefusesStanding (fleet : FleetView) (inventory text : List ℕ) (takes_others : Bool) (old new : Option (List ℕ)) (fault : Fault) : Type 0 where
  pub cause : ResumeFault
  pub is : fault ≡ fault_of cause
  pub refused : RefusesBegun fleet inventory takes_others text cause
  pub unwritten : Keeps old new

-- the fault is true of the text, and nothing went out; or what was told broke off where it says
abbrev pub IsTrueOfJournal : FleetView → List ℕ → List ℕ → Bool → Bool → Option (List ℕ) → Option (List ℕ) → Fault → Type 0
IsTrueOfJournal fleet inventory text takes_others goes_on old new (Write fault) = BreaksStanding fleet inventory text takes_others goes_on old new fault.written
IsTrueOfJournal fleet inventory text takes_others goes_on old new (BadJournal line) = RefusesStanding fleet inventory text takes_others old new (BadJournal line)
IsTrueOfJournal fleet inventory text takes_others goes_on old new OtherInputs = RefusesStanding fleet inventory text takes_others old new OtherInputs
IsTrueOfJournal fleet inventory text takes_others goes_on old new Memory = Keeps old new
IsTrueOfJournal fleet inventory text takes_others goes_on old new fault = ⊥

-- both texts were accepted, and where the run stands was told; the fleet's names are plain, so that no other entry has a line of the journal
pub record TellsTexts (inventory text : List ℕ) (takes_others goes_on : Bool) (old new : Option (List ℕ)) (status : Status) : Type 0 where
  pub fleet : FleetView
  pub accepted : IsFleetIn inventory fleet
  pub plain : HasPlainNames fleet
  pub tells : TellsStanding fleet inventory text takes_others goes_on old new status

-- the inventory was accepted, and the fault is true of the journal
pub record RefusesJournal (inventory text : List ℕ) (takes_others goes_on : Bool) (old new : Option (List ℕ)) (fault : Fault) : Type 0 where
  pub fleet : FleetView
  pub accepted : IsFleetIn inventory fleet
  pub plain : HasPlainNames fleet
  pub is_true : IsTrueOfJournal fleet inventory text takes_others goes_on old new fault

-- the fault is true of the inventory, or of the journal
abbrev pub RefusesTexts : List ℕ → List ℕ → Bool → Bool → Option (List ℕ) → Option (List ℕ) → Fault → Type 0
RefusesTexts inventory text takes_others goes_on old new fault = (IsUnread inventory fault × Keeps old new) ⊎ RefusesJournal inventory text takes_others goes_on old new fault

-- whether the journal's lock is held by another; a run whose journal is standard input doesn't go on
abbrev pub IsAsked : KnownFiles → Source → Bool → Type 0
IsAsked known StandardInput goes_on = goes_on ≡ false
IsAsked known (File name) goes_on = IsTold (known.held (string_bytes name)) goes_on

-- both inputs were read, and where the run stands was told
pub record HoldsState (takes_others : Bool) (sources : Sources) (inventory journal : Source) (input_old input_new out_old out_new : Option (List ℕ)) (status : Status) : Type 0 where
  pub first : List ℕ
  pub second : List ℕ
  pub texts : ReadsBoth sources inventory journal input_old input_new first second
  pub goes_on : Bool
  pub asked : IsAsked sources.known journal goes_on
  pub tells : TellsTexts first second takes_others goes_on out_old out_new status

-- both inputs were read, and the fault is true of one of them
pub record EndsState (takes_others : Bool) (sources : Sources) (inventory journal : Source) (input_old input_new out_old out_new : Option (List ℕ)) (fault : Fault) : Type 0 where
  pub first : List ℕ
  pub second : List ℕ
  pub texts : ReadsBoth sources inventory journal input_old input_new first second
  pub goes_on : Bool
  pub asked : IsAsked sources.known journal goes_on
  pub refuses : RefusesTexts first second takes_others goes_on out_old out_new fault

-- the command `state`
abbrev pub TellsState : Bool → Sources → Source → Source → Option (List ℕ) → Option (List ℕ) → Option (List ℕ) → Option (List ℕ) → Result Status Fault → Type 0
TellsState takes_others sources inventory journal input_old input_new out_old out_new (Ok status) =
    HoldsState takes_others sources inventory journal input_old input_new out_old out_new status
TellsState takes_others sources inventory journal input_old input_new out_old out_new (Err fault) =
    (InputUnreadable sources inventory journal input_old input_new fault × Keeps out_old out_new)
    ⊎ EndsState takes_others sources inventory journal input_old input_new out_old out_new fault
