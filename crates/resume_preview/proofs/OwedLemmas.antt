-- Repaired hosts run what they owe.
use Rattle.std.proofs.Common.{◌≡◌, ℕ, ◌<◌, Option, None, Some, List, length, true, sym, ap, ◌∙◌, arith, inl, inr}
use Rattle.std.specs.List.{slice_get}
use Rattle.std.proofs.lemmas.Bool.{both_ways}
use Rattle.std.proofs.lemmas.List.{length-map}
use Rattle.std.proofs.lemmas.Option.{slice_get_cases}
use Rattle.fleet_index.specs.NumberLists.{has_number}
use Rattle.fleet_states.specs.Statuses.{is_waiting, status_at}
use Rattle.fleet_states.proofs.StatusLemmas.{waiting_within}
use Rattle.host_track.specs.Endings.{Ending}
use Rattle.host_vars.specs.HostVars.{variables_of}
use Rattle.host_vars.specs.declared.vars.Vars.{Vars}
use Rattle.event_log.proofs.OwingFronts.{report_each}
use Rattle.event_log.specs.Told.{Work}
use Rattle.event_log.specs.Works.{known_at, known_with}
use Rattle.journal.specs.States.{is_under_way, resumes}
use Rattle.play_forecast.specs.PlayPlans.{targets}
use Rattle.resume_state.proofs.DebtLemmas.{owes_there}
use Rattle.resume_state.proofs.StartLemmas.{all_kept, length-start}
use Rattle.resume_state.specs.Debts.{OweAmong}
use Rattle.resume_state.specs.declared.inputs.Resumption.{Resumption}
use Rattle.roll_run.specs.Runs.{roll_by}
use Rattle.resume_preview.specs.Asked.{GoesOnWith, Question}
use Rattle.resume_preview.specs.Laws.{RepairedHostsRunEachHandler}

-- what is known of a host that owes as the play begins says so
known_owes : (owing : List ℕ) (vars after : List Vars) (host : ℕ) → OweAmong owing vars after → host < length vars → has_number host owing ≡ true → (known_at after host).owes ≡ true
known_owes owing vars after host owe within listed =
    elim (slice_get_cases after host).1 [
      | inl found ↦ ap (λ (o : Option Vars). (known_with o).owes) found.2 ∙ owes_there owing vars after host found.0 owe within found.3 listed
      | inr past ↦ absurd (omega (arith, within, past.0, owe.all))
    ]

module _ (asked : Question) (resumption : Resumption) (goes : GoesOnWith asked resumption) where
  -- each host has a status as the play goes on, and variables
  as_many : length resumption.beginning.start.statuses.items ≡ length goes.vars
  as_many =
      let gone = goes.gone in
      let hosts : length goes.vars ≡ length resumption.fleet.hosts = sym (length-map goes.vars variables_of) ∙ goes.hosts.variables.len in
      ap length gone.on.begins ∙ length-start (is_under_way (resumes goes.state goes.mended)) (targets resumption.fleet gone.first) goes.mended goes.state.statuses
      ∙ all_kept resumption.fleet goes.own.reads.entries goes.state goes.own.reads.leads ∙ sym hosts

pub repaired_hosts_run_each_handler : (may : Work → Ending → Type 0) → RepairedHostsRunEachHandler may
repaired_hosts_run_each_handler may asked resumption goes forks runs logs are host step listed waits updated within =
    let statuses = resumption.beginning.start.statuses.items in
    let vars = resumption.beginning.start.vars.items in
    let there : host < length goes.vars = omega (arith, waiting_within statuses host waits, as_many asked resumption goes) in
    let owes = known_owes (resumes goes.state goes.mended).owing goes.vars vars host goes.gone.owe there listed in
    report_each (roll_by resumption.fleet are.first forks statuses vars) are.log host step are.is_first.is_safe.legal owes
    (λ was. both_ways (is_waiting (status_at statuses host)) (ap is_waiting was) waits) (ap (λ l. status_at l host) (sym are.is_first.statuses) ∙ updated) within
