-- Runs that begin with the first play of what both texts say are runs of the texts.
use Rattle.std.proofs.Common.{◌≡◌, ℕ, List, Option, inl, inr, subst, sym}
use Rattle.domains.specs.FleetViews.{FleetView}
use Rattle.fleet_states.specs.declared.status.Status.{Status}
use Rattle.host_vars.specs.declared.vars.Vars.{Vars}
use Rattle.host_track.specs.Endings.{Ending}
use Rattle.json_output.specs.declared.form.Form.{Form}
use Rattle.play_model.specs.declared.play.Play.{Play}
use Rattle.event_log.specs.Events.{Event}
use Rattle.event_log.specs.Told.{Work}
use Rattle.roll_run.specs.declared.run.Run.{Run}
use Rattle.roll_run.specs.declared.start.Start.{Start}
use Rattle.roll_run.specs.declared.fault.RunFault.{RunFault}
use Rattle.roll_run.specs.Journals.{JournalEntry}
use Rattle.run_command.specs.Beginnings.{IsBrokenRecapFrom, IsRecapFrom, IsTrueFaultFrom, WritesFrom}
use Rattle.run_command.specs.Inputs.{AreInputs}
use Rattle.run_command.specs.Keepings.{KeepsAheadFrom, KeepsBroken, KeepsFrom, KeepsRuns}
use Rattle.run_command.specs.RunTexts.{IsBrokenRecap, IsRecap, IsTrueFault, WritesRecap}
use Rattle.run_command.specs.declared.beginning.Beginning.{Beginning}
use Rattle.run_command.specs.declared.end.RunEnd.{RunEnd}
use Rattle.run_command.specs.declared.fault.RunTextFault.{RunTextFault}
use Rattle.run_command.specs.declared.fault.RunTextFault.TheVariants.{Refused, Memory, Broken, Write}

-- the same of plays that are lent
pub inputs_lent : (inventory playbook : List ℕ) (fleet : FleetView) (vars : List Vars) (plays lent : List Play) (statuses : List Status) → lent ≡ plays
    → AreInputs inventory playbook fleet vars plays statuses
    → AreInputs inventory playbook fleet vars lent statuses
inputs_lent inventory playbook fleet vars plays lent statuses same inputs = subst (λ (l : List Play). AreInputs inventory playbook fleet vars l statuses) (sym same) inputs

module _ (form : Form) (may : Work → Ending → Type 0) (inventory playbook : List ℕ) (forks : ℕ) (fleet : FleetView) (plays : List Play) (start : Start)
    (inputs : AreInputs inventory playbook fleet start.vars.items plays start.statuses.items) where
  abbrev first : Beginning
  first = record { plays_before = 0; start = start }

  recap_of : (runs : List Run) (logs : List (List Event)) (text : List ℕ) → IsRecapFrom form may fleet forks plays first runs logs text → IsRecap form may inventory playbook forks runs logs text
  recap_of runs logs text is =
      record { fleet = fleet; plays = plays; are = record { vars = start.vars.items; statuses = start.statuses.items; inputs = inputs; runs_are = is.are }; text_is = is.text_is }

  broken_recap_of : (done : List Run) (last : RunFault) (logs : List (List Event)) (text : List ℕ) → IsBrokenRecapFrom form may fleet forks plays first done last logs text
      → IsBrokenRecap form may inventory playbook forks done last logs text
  broken_recap_of done last logs text is =
      record { fleet = fleet; plays = plays; are = record { vars = start.vars.items; statuses = start.statuses.items; inputs = inputs; broken = is.are }; text_is = is.text_is }

  module _ (old new : Option (List ℕ)) where
    pub recap_written : (end : RunEnd) (logs : List (List Event)) → WritesFrom form may fleet forks plays first old new end logs → WritesRecap form may inventory playbook forks old new end logs
    recap_written end logs writes =
        record { runs = writes.runs; text = writes.text; is = recap_of writes.runs logs writes.text writes.is; written = writes.written; ends = writes.ends }

    pub fault_is_true : (fault : RunTextFault) (logs : List (List Event)) → IsTrueFaultFrom form may fleet forks plays first old new fault logs → IsTrueFault form may inventory playbook forks old new fault logs
    fault_is_true (Refused fault) logs is = absurd is
    fault_is_true Memory logs is = absurd is
    fault_is_true (Broken why) logs is =
        record { done = is.done; last = is.last; text = is.text; is = broken_recap_of is.done is.last logs is.text is.is; written = is.written; why_is = is.why_is }
    fault_is_true (Write fault) logs (inl is) = inl (record { runs = is.runs; text = is.text; is = recap_of is.runs logs is.text is.is; written = is.written })
    fault_is_true (Write fault) logs (inr is) =
        inr (record { done = is.done; last = is.last; text = is.text; is = broken_recap_of is.done is.last logs is.text is.is; written = is.written })

-- and what is kept of them is kept of runs of the texts
module _ {K : Type 0} (keeps : K → K → FleetView → JournalEntry → Type 0) (inventory playbook : List ℕ) (fleet : FleetView) (vars : List Vars) (plays : List Play)
    (statuses : List Status) (inputs : AreInputs inventory playbook fleet vars plays statuses) (before after : K) where
  pub kept_of_texts : (logs : List (List Event)) → KeepsFrom keeps fleet plays before after logs → KeepsRuns keeps inventory playbook before after logs
  kept_of_texts logs kept = record { fleet = fleet; vars = vars; plays = plays; statuses = statuses; inputs = inputs; keeps_from = kept }

  pub ahead_of_texts : (logs : List (List Event)) → KeepsAheadFrom keeps fleet plays before after logs → KeepsBroken keeps inventory playbook before after logs
  ahead_of_texts logs kept = inr (record { fleet = fleet; vars = vars; plays = plays; statuses = statuses; inputs = inputs; keeps_from = kept })
