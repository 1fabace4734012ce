-- What the command `run` does with the inputs that a line names.
use Rattle.std.specs.Prelude.{◌≡◌, ◌⊎◌, ◌<◌, ◌≤◌, ℕ, Bool, true, false, List, [], Option, Result, Ok, Err}
use Rattle.std.specs.Io.KnownBytes.{Keeps}
use Rattle.bounded_io.specs.declared.input_fault.InputFault.TheVariants as input_fault
use Rattle.command_line.specs.declared.command.Source.{Source}
use Rattle.host_track.specs.Endings.{Ending}
use Rattle.event_log.specs.Events.{Event}
use Rattle.event_log.specs.Told.{Work}
use Rattle.run_command.specs.RunTexts.{AreSafeIn, WritesRecap, IsTrueFault}
use Rattle.run_command.specs.declared.end.RunEnd.{RunEnd}
use Rattle.run_command.specs.declared.fault.RunTextFault.{RunTextFault}
use Rattle.json_output.specs.declared.form.Form.{Form}
use Rattle.rollout.specs.Children.{IsAnswerOf}
use Rattle.rollout.specs.Inputs.{InputUnreadable, ReadsBoth}
use Rattle.rollout.specs.RollFaults.{fault_of}
use Rattle.rollout.specs.Status.{status_of_run}
use Rattle.rollout.specs.Strictness.{FindsNames, RefusesNames}
use Rattle.rollout.specs.Systems.{IsSomewhere, KnownFiles, Sources}
use Rattle.rollout.specs.declared.fault.Fault.{Fault}
use Rattle.rollout.specs.declared.fault.Fault.TheVariants.{ChildrenIgnored, Input, JournalThere, JournalWrite, Locked, Memory, Stopped}
use Rattle.rollout.specs.declared.status.Status.{Status}

-- plays were run, their recap went out, and the status tells of their end
pub record Prints (Writes : RunEnd → List (List Event) → Type 0) (status : Status) (logs : List (List Event)) : Type 0 where
  pub end : RunEnd
  pub recap : Writes end logs
  pub tells : status ≡ status_of_run end

-- what a fault of a run of plays is to the program, where it is true
pub record Fails (IsTrue : RunTextFault → List (List Event) → Type 0) (fault : Fault) (logs : List (List Event)) : Type 0 where
  pub cause : RunTextFault
  pub is : fault ≡ fault_of cause
  pub is_true : IsTrue cause logs

-- plays were run and their recap went out, and the journal of the run did not take its end
pub record LosesEnd (Writes : RunEnd → List (List Event) → Type 0) (fault : Fault) (logs : List (List Event)) : Type 0 where
  pub status : Status
  pub prints : Prints Writes status logs
  pub is : fault ≡ JournalWrite

abbrev pub Breaks : (RunEnd → List (List Event) → Type 0) → (RunTextFault → List (List Event) → Type 0) → Fault → List (List Event) → Type 0
Breaks Writes IsTrue fault logs = Fails IsTrue fault logs ⊎ LosesEnd Writes fault logs

-- the plays of both texts were run with so many workers
abbrev pub PrintsRecap : Form → (Work → Ending → Type 0) → List ℕ → List ℕ → ℕ → Option (List ℕ) → Option (List ℕ) → Status → List (List Event) → Type 0
PrintsRecap form may inventory playbook forks old new = Prints (WritesRecap form may inventory playbook forks old new)

-- the fault is true of both texts, of a run of their plays, or of where its recap broke off; or the journal did not take its end
abbrev pub BreaksOff : Form → (Work → Ending → Type 0) → List ℕ → List ℕ → ℕ → Option (List ℕ) → Option (List ℕ) → Fault → List (List Event) → Type 0
BreaksOff form may inventory playbook forks old new = Breaks (WritesRecap form may inventory playbook forks old new) (IsTrueFault form may inventory playbook forks old new)

-- both inputs were read, and the plays of their texts were run
pub record ShowsRecap (form : Form) (strict : Bool) (may : Work → Ending → Type 0) (sources : Sources) (inventory playbook : Source) (forks : ℕ) (input_old input_new out_old out_new : Option (List ℕ)) (status : Status) (logs : List (List Event)) : Type 0 where
  pub first : List ℕ
  pub second : List ℕ
  pub texts : ReadsBoth sources inventory playbook input_old input_new first second
  pub named : FindsNames strict first second
  pub prints : PrintsRecap form may first second forks out_old out_new status logs

-- both inputs were read, and the fault is true of their texts or of a run
pub record BreaksRun (form : Form) (strict : Bool) (may : Work → Ending → Type 0) (sources : Sources) (inventory playbook : Source) (forks : ℕ) (input_old input_new out_old out_new : Option (List ℕ)) (fault : Fault) (logs : List (List Event)) : Type 0 where
  pub first : List ℕ
  pub second : List ℕ
  pub texts : ReadsBoth sources inventory playbook input_old input_new first second
  pub named : FindsNames strict first second
  pub breaks : BreaksOff form may first second forks out_old out_new fault logs

-- both inputs were read, and no play was run and nothing went out: a name is missing, or it can't be told whether one is
pub record HoldsBack (strict : Bool) (sources : Sources) (inventory playbook : Source) (input_old input_new out_old out_new : Option (List ℕ)) (fault : Fault) (logs : List (List Event)) : Type 0 where
  pub first : List ℕ
  pub second : List ℕ
  pub texts : ReadsBoth sources inventory playbook input_old input_new first second
  pub is_strict : strict ≡ true
  pub refuses : RefusesNames first second fault
  pub unwritten : Keeps out_old out_new
  pub none : logs ≡ []

-- both inputs were read and their plays were run, where each program may end so, and these are the logs of all that was started: nothing is before both
-- inputs were read
abbrev pub RollsInputs : Form → Bool → (Work → Ending → Type 0) → Sources → Source → Source → ℕ → Option (List ℕ) → Option (List ℕ) → Option (List ℕ) → Option (List ℕ)
    → Result Status Fault → List (List Event) → Type 0
RollsInputs form strict may sources inventory playbook forks input_old input_new out_old out_new (Ok status) logs =
    ShowsRecap form strict may sources inventory playbook forks input_old input_new out_old out_new status logs
RollsInputs form strict may sources inventory playbook forks input_old input_new out_old out_new (Err fault) logs =
    (InputUnreadable sources inventory playbook input_old input_new fault × Keeps out_old out_new × (logs ≡ []))
    ⊎ HoldsBack strict sources inventory playbook input_old input_new out_old out_new fault logs
    ⊎ BreaksRun form strict may sources inventory playbook forks input_old input_new out_old out_new fault logs

-- a file that is to be locked can't be had, or memory is wanting for its name
abbrev pub IsUnlockable : Fault → Type 0
IsUnlockable (Input source input_fault.File) = Unit {0}
IsUnlockable Memory = Unit {0}
IsUnlockable fault = ⊥

-- why a run is refused before anything is read: the ends of children are ignored, or memory was wanting to look; or its journal is there already; or another run holds the lock, or its file can't be had
abbrev pub IsRefusedBy : KnownFiles → Fault → Type 0
IsRefusedBy known ChildrenIgnored = IsAnswerOf known.files true
IsRefusedBy known Memory = Unit {0}
IsRefusedBy known JournalThere = IsSomewhere known.there
IsRefusedBy known Locked = IsSomewhere known.held
IsRefusedBy known fault = IsUnlockable fault

-- a run is refused: nothing was read, run or written
pub record RefusesToRoll (sources : Sources) (input_old input_new out_old out_new : Option (List ℕ)) (result : Result Status Fault) (logs : List (List Event)) : Type 0 where
  pub fault : Fault
  pub because : IsRefusedBy sources.known fault
  pub is : result ≡ Err fault
  pub unread : Keeps input_old input_new
  pub unwritten : Keeps out_old out_new
  pub none : logs ≡ []

-- the ends of children are not ignored, and the inputs were run, by as many workers as were asked for or fewer; that a run was stopped is told only where it may be
pub record RollsOn (form : Form) (strict : Bool) (may : Work → Ending → Type 0) (asks : Bool) (sources : Sources) (inventory playbook : Source) (forks : ℕ) (input_old input_new out_old out_new : Option (List ℕ)) (result : Result Status Fault) (logs : List (List Event)) : Type 0 where
  pub kept : IsAnswerOf sources.known.files false
  pub workers : ℕ
  pub some : 0 < workers
  pub few : workers ≤ forks
  pub rolls : RollsInputs form strict may sources inventory playbook workers input_old input_new out_old out_new result logs
  pub stops : result ≡ Err Stopped → asks ≡ true

-- the command `run`, where each program may end so, and whether it may be stopped; and the logs of all that it started
abbrev pub Rolls : Form → Bool → (Work → Ending → Type 0) → Bool → Sources → Source → Source → ℕ → Option (List ℕ) → Option (List ℕ) → Option (List ℕ) → Option (List ℕ)
    → Result Status Fault → List (List Event) → Type 0
Rolls form strict may asks sources inventory playbook forks input_old input_new out_old out_new result logs =
    RefusesToRoll sources input_old input_new out_old out_new result logs
    ⊎ RollsOn form strict may asks sources inventory playbook forks input_old input_new out_old out_new result logs

-- both inputs were read, and these are the logs of rolls of their plays on their fleet, by as many workers as this or fewer: at no moment of any of them is a
-- group over its limit
pub record AreSafeFrom (may : Work → Ending → Type 0) (sources : Sources) (inventory playbook : Source) (forks : ℕ) (input_old input_new : Option (List ℕ)) (logs : List (List Event)) : Type 0 where
  pub first : List ℕ
  pub second : List ℕ
  pub texts : ReadsBoth sources inventory playbook input_old input_new first second
  pub workers : ℕ
  pub few : workers ≤ forks
  pub rolls : AreSafeIn may first second workers logs
