-- What the command `rehearse` does with the inputs that a line names, and with the commands on standard input.
use Rattle.std.specs.Prelude.{◌≡◌, ◌⊎◌, ◌&&◌, ℕ, Bool, if◌then◌else◌, List, Option, Result, Ok, Err}
use Rattle.std.specs.Io.KnownBytes.{Keeps}
use Rattle.command_line.specs.declared.command.Source.{Source}
use Rattle.json_output.specs.declared.form.Form.{Form}
use Rattle.rehearse.specs.Tellings.{telling_of}
use Rattle.rehearse.specs.RehearseTexts.{Rehearses, IsTrueFault}
use Rattle.rehearse.specs.declared.fault.RehearseFault.{RehearseFault}
use Rattle.rollout.specs.Inputs.{InputUnreadable, ReadsBoth}
use Rattle.rollout.specs.RehearsalFaults.{fault_of}
use Rattle.rollout.specs.Systems.{Sources}
use Rattle.rollout.specs.declared.fault.Fault.{Fault}
use Rattle.rollout.specs.declared.status.Status.{Status}
use Rattle.rollout.specs.declared.status.Status.TheVariants.{Done, Refused}

-- how a session ends all of whose commands were answered, of which one was refused or none, where none is to be
abbrev pub status_of_session : Bool → Bool → Status
status_of_session strict refused = if strict && refused then Refused else Done

-- the first play of both texts was rehearsed, all commands were answered, and nothing more is told of it but that one was refused, where none is to be
pub record AnswersAll (form : Form) (strict : Bool) (inventory playbook : List ℕ) (input_old input_new out_old out_new : Option (List ℕ)) (status : Status) : Type 0 where
  pub refused : Bool
  pub rehearses : Rehearses (telling_of form) inventory playbook input_old input_new out_old out_new refused
  pub tells : status ≡ status_of_session strict refused

-- the fault is true of both texts, of a session on their first play, or of where its answers broke off
pub record EndsEarly (form : Form) (is_reliable : Bool) (inventory playbook : List ℕ) (input_old input_new out_old out_new : Option (List ℕ)) (fault : Fault) : Type 0 where
  pub cause : RehearseFault
  pub is : fault ≡ fault_of cause
  pub is_true : IsTrueFault (telling_of form) is_reliable inventory playbook input_old input_new out_old out_new cause

-- both inputs were read, and behind them, where they are files, the commands, all of which were answered
pub record HoldsRehearsal (form : Form) (strict : Bool) (sources : Sources) (inventory playbook : Source) (input_old input_new out_old out_new : Option (List ℕ)) (status : Status) : Type 0 where
  pub first : List ℕ
  pub second : List ℕ
  pub between : Option (List ℕ)
  pub texts : ReadsBoth sources inventory playbook input_old between first second
  pub answers : AnswersAll form strict first second between input_new out_old out_new status

-- both inputs were read, and the fault is true of their texts or of the session
pub record EndsRehearsal (form : Form) (sources : Sources) (inventory playbook : Source) (input_old input_new out_old out_new : Option (List ℕ)) (fault : Fault) : Type 0 where
  pub first : List ℕ
  pub second : List ℕ
  pub between : Option (List ℕ)
  pub texts : ReadsBoth sources inventory playbook input_old between first second
  pub ends : EndsEarly form sources.is_reliable first second between input_new out_old out_new fault

-- the command `rehearse`: no command is read before both inputs were; its answers are in the form
abbrev pub RehearsesInputs : Form → Bool → Sources → Source → Source → Option (List ℕ) → Option (List ℕ) → Option (List ℕ) → Option (List ℕ) → Result Status Fault → Type 0
RehearsesInputs form strict sources inventory playbook input_old input_new out_old out_new (Ok status) =
    HoldsRehearsal form strict sources inventory playbook input_old input_new out_old out_new status
RehearsesInputs form strict sources inventory playbook input_old input_new out_old out_new (Err fault) =
    (InputUnreadable sources inventory playbook input_old input_new fault × Keeps out_old out_new)
    ⊎ EndsRehearsal form sources inventory playbook input_old input_new out_old out_new fault
