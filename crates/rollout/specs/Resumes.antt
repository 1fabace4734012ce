-- What the command `run` does that is to go on with a run which broke off.
use Rattle.std.specs.Prelude.{◌≡◌, ◌⊎◌, ◌<◌, ◌≤◌, ℕ, Bool, true, false, List, [], ◌∷◌, Option, None, Some, Result, Ok, Err}
use Rattle.std.specs.Io.KnownBytes.{Keeps}
use Rattle.command_line.specs.Answers.{IsFile}
use Rattle.command_line.specs.Wishes.{Wish}
use Rattle.command_line.specs.declared.command.Source.{Source}
use Rattle.domains.specs.FleetViews.{FleetView}
use Rattle.host_track.specs.Endings.{Ending}
use Rattle.event_log.specs.Events.{Event}
use Rattle.event_log.specs.Told.{Work}
use Rattle.play_model.specs.declared.play.Play.{Play}
use Rattle.resume_state.specs.Resumptions.{IsResumption, RefusesToResume}
use Rattle.resume_state.specs.declared.fault.ResumeFault.{ResumeFault}
use Rattle.resume_state.specs.declared.inputs.Resumption.{Resumption}
use Rattle.run_command.specs.Beginnings.{AreSafeBehind, IsTrueFaultFrom, WritesFrom}
use Rattle.run_command.specs.declared.beginning.Beginning.{Beginning}
use Rattle.json_output.specs.declared.form.Form.{Form}
use Rattle.rollout.specs.Children.{IsAnswerOf}
use Rattle.rollout.specs.Endings.{form_of}
use Rattle.rollout.specs.Inputs.{IsFaultOfFile, IsTextOfFile, InputUnreadable, ReadsBoth}
use Rattle.rollout.specs.ResumeFaults as refusals
use Rattle.rollout.specs.Rolls.{Breaks, Prints, RefusesToRoll, Rolls}
use Rattle.resume_state.specs.Resumptions.{IsMendedBeginning, RefusesToBegin}
use Rattle.rollout.specs.Systems.{Files, Sources}
use Rattle.rollout.specs.declared.fault.Fault.{Fault}
use Rattle.rollout.specs.declared.fault.Fault.TheVariants.{Input, JournalWrite, Memory, Stopped}
use Rattle.rollout.specs.declared.status.Status.{Status}
use Rattle.rollout.specs.declared.commands.resume.ResumeWish as declared

-- of which journal the run is that is to go on, the names of the hosts that are up by now, and whether the inputs may be others than those with which it began
pub record ResumeWish : Type 0 where
  pub journal : List ℕ
  pub mended : List ℕ
  pub takes_others : Bool

-- what is wished for, as the program has it
abbrev pub wished : declared.ResumeWish → ResumeWish
wished wish = record { journal = wish.journal.now; mended = wish.mended.now; takes_others = wish.takes_others }

-- what the words ask for that name its journal
abbrev pub resume_wish : List ℕ → Wish → ResumeWish
resume_wish journal wish = record { journal = journal; mended = wish.mended; takes_others = wish.others }

-- what both texts and the journal say, and what the run goes on with
abbrev pub IsWished : List ℕ → List ℕ → List ℕ → ResumeWish → Resumption → Type 0
IsWished inventory playbook journal wish resumption = IsResumption inventory playbook journal wish.mended wish.takes_others resumption

-- why none goes on with them
abbrev pub IsNoneWished : List ℕ → List ℕ → List ℕ → ResumeWish → ResumeFault → Type 0
IsNoneWished inventory playbook journal wish cause = RefusesToResume inventory playbook journal wish.mended wish.takes_others cause

-- the plays were run from there with so many workers, and their recap went out
abbrev pub PrintsRest : Form → (Work → Ending → Type 0) → FleetView → List Play → Beginning → ℕ → Option (List ℕ) → Option (List ℕ) → Status → List (List Event) → Type 0
PrintsRest form may fleet plays beginning forks old new = Prints (WritesFrom form may fleet forks plays beginning old new)

-- the fault is true of a run of the plays from there, or of where its recap broke off; or the journal did not take its end
abbrev pub BreaksRest : Form → (Work → Ending → Type 0) → FleetView → List Play → Beginning → ℕ → Option (List ℕ) → Option (List ℕ) → Fault → List (List Event) → Type 0
BreaksRest form may fleet plays beginning forks old new = Breaks (WritesFrom form may fleet forks plays beginning old new) (IsTrueFaultFrom form may fleet forks plays beginning old new)

-- the run went on with what is wished, and its recap went out
pub record PrintsOn (form : Form) (may : Work → Ending → Type 0) (Is : Resumption → Type 0) (forks : ℕ) (old new : Option (List ℕ)) (status : Status) (logs : List (List Event)) : Type 0 where
  pub resumption : Resumption
  pub wished : Is resumption
  pub prints : PrintsRest form may resumption.fleet resumption.plays.items resumption.beginning forks old new status logs

-- the run went on, and broke off
pub record BreaksOn (form : Form) (may : Work → Ending → Type 0) (Is : Resumption → Type 0) (forks : ℕ) (old new : Option (List ℕ)) (fault : Fault) (logs : List (List Event)) : Type 0 where
  pub resumption : Resumption
  pub wished : Is resumption
  pub breaks : BreaksRest form may resumption.fleet resumption.plays.items resumption.beginning forks old new fault logs

-- the run can't go on, as is refused so
pub record CanNotGoOn (Refuses : ResumeFault → Type 0) (fault : Fault) : Type 0 where
  pub cause : ResumeFault
  pub is : fault ≡ refusals.fault_of cause
  pub refuses : Refuses cause

-- nothing was started, and nothing went out: the run can't go on, or its journal can't be written
pub record IsNoGoingOn (Refuses : ResumeFault → Type 0) (old new : Option (List ℕ)) (fault : Fault) (logs : List (List Event)) : Type 0 where
  pub why : CanNotGoOn Refuses fault ⊎ (fault ≡ JournalWrite)
  pub unwritten : Keeps old new
  pub none : logs ≡ []

-- what comes of a run that goes on with what is wished, or is refused so
abbrev pub GoesOnBy : Form → (Work → Ending → Type 0) → (Resumption → Type 0) → (ResumeFault → Type 0) → ℕ → Option (List ℕ) → Option (List ℕ) → Result Status Fault → List (List Event) → Type 0
GoesOnBy form may Is Refuses forks old new (Ok status) logs = PrintsOn form may Is forks old new status logs
GoesOnBy form may Is Refuses forks old new (Err fault) logs = IsNoGoingOn Refuses old new fault logs ⊎ BreaksOn form may Is forks old new fault logs

-- the journal's file can't be read
abbrev pub LacksJournal : Files → List ℕ → Fault → Type 0
LacksJournal files name (Input source fault) = IsFile name source × IsFaultOfFile (files name) fault
LacksJournal files name Memory = Unit {0}
LacksJournal files name fault = ⊥

-- both inputs and the journal were read
pub record GoesOn (form : Form) (may : Work → Ending → Type 0) (sources : Sources) (inventory playbook : Source) (wish : ResumeWish) (forks : ℕ) (input_old input_new out_old out_new : Option (List ℕ)) (result : Result Status Fault) (logs : List (List Event)) : Type 0 where
  pub first : List ℕ
  pub second : List ℕ
  pub third : List ℕ
  pub texts : ReadsBoth sources inventory playbook input_old input_new first second
  pub journal : IsTextOfFile (sources.known.files wish.journal) third
  pub goes : GoesOnBy form may (IsWished first second third wish) (IsNoneWished first second third wish) forks out_old out_new result logs

-- an input, or the journal, can't be read
pub record LacksAny (sources : Sources) (inventory playbook : Source) (wish : ResumeWish) (input_old input_new out_old out_new : Option (List ℕ)) (result : Result Status Fault) (logs : List (List Event)) : Type 0 where
  pub fault : Fault
  pub is : result ≡ Err fault
  pub why : InputUnreadable sources inventory playbook input_old input_new fault ⊎ LacksJournal sources.known.files wish.journal fault
  pub unwritten : Keeps out_old out_new
  pub none : logs ≡ []

abbrev pub ResumesInputs : Form → (Work → Ending → Type 0) → Sources → Source → Source → ResumeWish → ℕ → Option (List ℕ) → Option (List ℕ) → Option (List ℕ) → Option (List ℕ)
    → Result Status Fault → List (List Event) → Type 0
ResumesInputs form may sources inventory playbook wish forks input_old input_new out_old out_new result logs =
    LacksAny sources inventory playbook wish input_old input_new out_old out_new result logs
    ⊎ GoesOn form may sources inventory playbook wish forks input_old input_new out_old out_new result logs

-- the ends of children are not ignored, and the run went on, by as many workers as were asked for or fewer; that it was stopped is told only where it may be
pub record ResumesOn (form : Form) (may : Work → Ending → Type 0) (asks : Bool) (sources : Sources) (inventory playbook : Source) (wish : ResumeWish) (forks : ℕ) (input_old input_new out_old out_new : Option (List ℕ)) (result : Result Status Fault) (logs : List (List Event)) : Type 0 where
  pub kept : IsAnswerOf sources.known.files false
  pub workers : ℕ
  pub some : 0 < workers
  pub few : workers ≤ forks
  pub resumes : ResumesInputs form may sources inventory playbook wish workers input_old input_new out_old out_new result logs
  pub stops : result ≡ Err Stopped → asks ≡ true

-- the command `run` that is to go on with a run, and the logs of all that it started
abbrev pub Resumes : Form → (Work → Ending → Type 0) → Bool → Sources → Source → Source → ResumeWish → ℕ → Option (List ℕ) → Option (List ℕ) → Option (List ℕ) → Option (List ℕ)
    → Result Status Fault → List (List Event) → Type 0
Resumes form may asks sources inventory playbook wish forks input_old input_new out_old out_new result logs =
    RefusesToRoll sources input_old input_new out_old out_new result logs
    ⊎ ResumesOn form may asks sources inventory playbook wish forks input_old input_new out_old out_new result logs

-- both inputs were read, and a run of theirs began in which these hosts are up by now
pub record BeginsMended (form : Form) (may : Work → Ending → Type 0) (sources : Sources) (inventory playbook : Source) (names : List ℕ) (forks : ℕ) (input_old input_new out_old out_new : Option (List ℕ)) (result : Result Status Fault) (logs : List (List Event)) : Type 0 where
  pub first : List ℕ
  pub second : List ℕ
  pub texts : ReadsBoth sources inventory playbook input_old input_new first second
  pub goes : GoesOnBy form may (IsMendedBeginning first second names) (RefusesToBegin first second names) forks out_old out_new result logs

-- an input can't be read
pub record LacksEither (sources : Sources) (inventory playbook : Source) (input_old input_new out_old out_new : Option (List ℕ)) (result : Result Status Fault) (logs : List (List Event)) : Type 0 where
  pub fault : Fault
  pub is : result ≡ Err fault
  pub why : InputUnreadable sources inventory playbook input_old input_new fault
  pub unwritten : Keeps out_old out_new
  pub none : logs ≡ []

abbrev pub MendsInputs : Form → (Work → Ending → Type 0) → Sources → Source → Source → List ℕ → ℕ → Option (List ℕ) → Option (List ℕ) → Option (List ℕ) → Option (List ℕ)
    → Result Status Fault → List (List Event) → Type 0
MendsInputs form may sources inventory playbook names forks input_old input_new out_old out_new result logs =
    LacksEither sources inventory playbook input_old input_new out_old out_new result logs
    ⊎ BeginsMended form may sources inventory playbook names forks input_old input_new out_old out_new result logs

-- the ends of children are not ignored, and the run began, by as many workers as were asked for or fewer; that it was stopped is told only where it may be
pub record MendsOn (form : Form) (may : Work → Ending → Type 0) (asks : Bool) (sources : Sources) (inventory playbook : Source) (names : List ℕ) (forks : ℕ) (input_old input_new out_old out_new : Option (List ℕ)) (result : Result Status Fault) (logs : List (List Event)) : Type 0 where
  pub kept : IsAnswerOf sources.known.files false
  pub workers : ℕ
  pub some : 0 < workers
  pub few : workers ≤ forks
  pub mends : MendsInputs form may sources inventory playbook names workers input_old input_new out_old out_new result logs
  pub stops : result ≡ Err Stopped → asks ≡ true

-- the command `run` where hosts are named that are up by now, and the logs of all that it started
abbrev pub RollsMended : Form → (Work → Ending → Type 0) → Bool → Sources → Source → Source → List ℕ → ℕ → Option (List ℕ) → Option (List ℕ) → Option (List ℕ) → Option (List ℕ)
    → Result Status Fault → List (List Event) → Type 0
RollsMended form may asks sources inventory playbook names forks input_old input_new out_old out_new result logs =
    RefusesToRoll sources input_old input_new out_old out_new result logs
    ⊎ MendsOn form may asks sources inventory playbook names forks input_old input_new out_old out_new result logs

-- the command `run`, where one is to begin: hosts that are named are up by now
abbrev pub BeginsBy : Form → Bool → (Work → Ending → Type 0) → Bool → List ℕ → Sources → Source → Source → ℕ → Option (List ℕ) → Option (List ℕ) → Option (List ℕ) → Option (List ℕ)
    → Result Status Fault → List (List Event) → Type 0
BeginsBy form strict may asks [] sources inventory playbook forks input_old input_new out_old out_new result logs =
    Rolls form strict may asks sources inventory playbook forks input_old input_new out_old out_new result logs
BeginsBy form strict may asks (byte ∷ names) sources inventory playbook forks input_old input_new out_old out_new result logs =
    RollsMended form may asks sources inventory playbook (byte ∷ names) forks input_old input_new out_old out_new result logs

-- the command `run`, where a run is to go on or one is to begin
abbrev pub RollsFrom : Form → (Work → Ending → Type 0) → Bool → Option (List ℕ) → Wish → Sources → Source → Source → ℕ → Option (List ℕ) → Option (List ℕ) → Option (List ℕ) → Option (List ℕ)
    → Result Status Fault → List (List Event) → Type 0
RollsFrom form may asks None wish sources inventory playbook forks input_old input_new out_old out_new result logs =
    BeginsBy form wish.strict may asks wish.mended sources inventory playbook forks input_old input_new out_old out_new result logs
RollsFrom form may asks (Some journal) wish sources inventory playbook forks input_old input_new out_old out_new result logs =
    Resumes form may asks sources inventory playbook (resume_wish journal wish) forks input_old input_new out_old out_new result logs

abbrev pub RollsBy : (Work → Ending → Type 0) → Bool → Wish → Sources → Source → Source → ℕ → Option (List ℕ) → Option (List ℕ) → Option (List ℕ) → Option (List ℕ)
    → Result Status Fault → List (List Event) → Type 0
RollsBy may asks wish sources inventory playbook forks input_old input_new out_old out_new result logs =
    RollsFrom (form_of wish.json) may asks wish.from wish sources inventory playbook forks input_old input_new out_old out_new result logs

-- both inputs were read, and these are the logs of rolls of the plays of a run that begins with these hosts up by now: at no moment of any of them is a group over its limit
pub record AreSafeMended (may : Work → Ending → Type 0) (sources : Sources) (inventory playbook : Source) (names : List ℕ) (forks : ℕ) (input_old input_new : Option (List ℕ)) (logs : List (List Event)) : Type 0 where
  pub first : List ℕ
  pub second : List ℕ
  pub texts : ReadsBoth sources inventory playbook input_old input_new first second
  pub resumption : Resumption
  pub wished : IsMendedBeginning first second names resumption
  pub workers : ℕ
  pub few : workers ≤ forks
  pub rolls : AreSafeBehind may resumption.fleet workers resumption.plays.items resumption.beginning logs

-- both inputs and the journal of a run were read, and these are the logs of rolls of the plays with which that run goes on, from how its journal leaves its hosts: at no moment
-- of any of them is a group over its limit
pub record AreSafeAgain (may : Work → Ending → Type 0) (sources : Sources) (inventory playbook : Source) (wish : ResumeWish) (forks : ℕ) (input_old input_new : Option (List ℕ)) (logs : List (List Event)) : Type 0 where
  pub first : List ℕ
  pub second : List ℕ
  pub third : List ℕ
  pub texts : ReadsBoth sources inventory playbook input_old input_new first second
  pub journal : IsTextOfFile (sources.known.files wish.journal) third
  pub resumption : Resumption
  pub wished : IsWished first second third wish resumption
  pub workers : ℕ
  pub few : workers ≤ forks
  pub rolls : AreSafeBehind may resumption.fleet workers resumption.plays.items resumption.beginning logs
