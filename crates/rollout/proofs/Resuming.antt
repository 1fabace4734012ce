-- A run that goes on by both texts and a journal is what the command `run` does.
use Rattle.std.proofs.Common.{◌≡◌, ℕ, Bool, List, Option, Result, Ok, Err, inr, subst}
use Rattle.std.specs.Prelude.{IfOk, IfErr}
use Rattle.host_track.specs.Endings.{Ending}
use Rattle.event_log.specs.Events.{Event}
use Rattle.event_log.specs.Told.{Work}
use Rattle.json_output.specs.declared.form.Form.{Form}
use Rattle.journal.specs.declared.fault.JournalFault.TheVariants as journal
use Rattle.resume_state.specs.Resumptions.{RefusesToBegin, RefusesToResume}
use Rattle.resume_state.specs.declared.fault.ResumeFault.{ResumeFault}
use Rattle.resume_state.specs.declared.fault.ResumeFault.TheVariants as resuming
use Rattle.resume_state.specs.declared.inputs.Resumption.{Resumption}
use Rattle.roll_run.specs.Histories.{Gains}
use Rattle.roll_run.proofs.Following.{gains_as}
use Rattle.run_command.specs.declared.fault.RunTextFault.TheVariants as running
use Rattle.rollout.specs.ResumeFaults.{fault_of}
use Rattle.rollout.specs.Resumes.{BreaksRest, GoesOnBy, LacksJournal, PrintsRest}
use Rattle.rollout.specs.Systems.{Files}
use Rattle.rollout.specs.declared.fault.Fault.{Fault}
use Rattle.rollout.specs.declared.fault.Fault.TheVariants.{Stopped}
use Rattle.rollout.specs.declared.status.Status.{Status}
use Rattle.rollout.proofs.Rolling.{plan_stops_nothing}

pub GoesOnBy-of_rest : (form : Form) (may : Work → Ending → Type 0) (Is : Resumption → Type 0) (Refuses : ResumeFault → Type 0) (forks : ℕ) (old new : Option (List ℕ)) (resumption : Resumption)
    (result : Result Status Fault) (before after : List (List Event)) → Is resumption
    → IfOk result (λ status. Gains before after (PrintsRest form may resumption.fleet resumption.plays.items resumption.beginning forks old new status))
    → IfErr result (λ fault. Gains before after (BreaksRest form may resumption.fleet resumption.plays.items resumption.beginning forks old new fault))
    → Gains before after (GoesOnBy form may Is Refuses forks old new result)
GoesOnBy-of_rest form may Is Refuses forks old new resumption (Ok status) before after wished prints breaks =
    gains_as before after (λ logs is. record { resumption = resumption; wished = wished; prints = is }) prints
GoesOnBy-of_rest form may Is Refuses forks old new resumption (Err fault) before after wished prints breaks =
    gains_as before after (λ logs is. inr (record { resumption = resumption; wished = wished; breaks = is })) breaks

-- nor was one that can't begin
pub beginnings_stop_nothing : (inventory playbook names : List ℕ) (cause : ResumeFault) → RefusesToBegin inventory playbook names cause → fault_of cause ≡ Stopped → ⊥
beginnings_stop_nothing inventory playbook names (resuming.Texts (running.Refused fault)) refuses same = plan_stops_nothing fault same
beginnings_stop_nothing inventory playbook names (resuming.Texts running.Memory) refuses same = absurd (cc)
beginnings_stop_nothing inventory playbook names (resuming.Texts (running.Broken why)) refuses same = refuses
beginnings_stop_nothing inventory playbook names (resuming.Texts (running.Write fault)) refuses same = refuses
beginnings_stop_nothing inventory playbook names (resuming.Journal why) refuses same = refuses
beginnings_stop_nothing inventory playbook names resuming.OtherInputs refuses same = absurd (cc)
beginnings_stop_nothing inventory playbook names (resuming.Mended fault) refuses same = absurd (cc)
beginnings_stop_nothing inventory playbook names (resuming.Over fault) refuses same = absurd (cc)
beginnings_stop_nothing inventory playbook names (resuming.NeedsResult name) refuses same = absurd (cc)
beginnings_stop_nothing inventory playbook names resuming.Memory refuses same = absurd (cc)

-- a run that can't go on was not stopped
pub refusals_stop_nothing : (inventory playbook text names : List ℕ) (takes_others : Bool) (cause : ResumeFault) → RefusesToResume inventory playbook text names takes_others cause → fault_of cause ≡ Stopped → ⊥
refusals_stop_nothing inventory playbook text names takes_others (resuming.Texts (running.Refused fault)) refuses same = plan_stops_nothing fault same
refusals_stop_nothing inventory playbook text names takes_others (resuming.Texts running.Memory) refuses same = absurd (cc)
refusals_stop_nothing inventory playbook text names takes_others (resuming.Texts (running.Broken why)) refuses same = refuses
refusals_stop_nothing inventory playbook text names takes_others (resuming.Texts (running.Write fault)) refuses same = refuses
refusals_stop_nothing inventory playbook text names takes_others (resuming.Journal (journal.Bad line)) refuses same = absurd (cc)
refusals_stop_nothing inventory playbook text names takes_others (resuming.Journal journal.Memory) refuses same = absurd (cc)
refusals_stop_nothing inventory playbook text names takes_others resuming.OtherInputs refuses same = absurd (cc)
refusals_stop_nothing inventory playbook text names takes_others (resuming.Mended fault) refuses same = absurd (cc)
refusals_stop_nothing inventory playbook text names takes_others (resuming.Over fault) refuses same = absurd (cc)
refusals_stop_nothing inventory playbook text names takes_others (resuming.NeedsResult name) refuses same = absurd (cc)
refusals_stop_nothing inventory playbook text names takes_others resuming.Memory refuses same = absurd (cc)

-- nor was one whose journal can't be read
pub never_lacking_journal : (files : Files) (name : List ℕ) (fault : Fault) → fault ≡ Stopped → LacksJournal files name fault → ⊥
never_lacking_journal files name fault is lacks = never (subst (LacksJournal files name) is lacks)
  where
    never : LacksJournal files name Stopped → ⊥
    never none = none
