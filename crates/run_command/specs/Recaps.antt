-- The text of the recaps of a playbook's plays.
use Rattle.std.specs.Prelude.{ℕ, ◌+◌, ◌-◌, nat_lt, if◌then◌else◌, Bool, true, false, Some, None, List, [], ◌∷◌, ◌++◌, codes, length, map}
use Rattle.domains.specs.FleetViews.{FleetView}
use Rattle.fleet_states.specs.declared.status.Status.{Status}
use Rattle.fleet_states.specs.declared.status.Status.TheVariants.{Idle}
use Rattle.fleet_states.specs.Statuses.{is_down}
use Rattle.json_output.specs.PlayJson.{PlayFacts, recap_json}
use Rattle.json_output.specs.declared.form.Form.{Form}
use Rattle.json_output.specs.declared.form.Form.TheVariants.{Plain, Json}
use Rattle.play_model.specs.declared.play.Play.{Play}
use Rattle.recap.specs.LimitsText.{field_text}
use Rattle.roll_run.specs.declared.run.Run.{Run}
use Rattle.roll_run.specs.declared.fault.RunFault.{RunFault}
use Rattle.recap.specs.RecapText.{boundary_lines, end_line, host_lines, text_by_place}

-- what a recap tells of a run that came to its end: each boundary but the last opened a batch
abbrev pub run_facts : Run → PlayFacts
run_facts run =
    record { boundaries = run.boundaries.items; opened = length run.boundaries.items - 1; statuses = run.statuses.items; counts = run.counts.items; end = Some run.end }

-- and of a run that a fault broke off
abbrev pub fault_facts : RunFault → PlayFacts
fault_facts fault =
    record { boundaries = fault.boundaries.items; opened = fault.opened; statuses = fault.statuses.items; counts = fault.counts.items; end = None }

-- of several runs, of which a fault broke the last one off
abbrev pub broken_facts : List Run → RunFault → List PlayFacts
broken_facts done last = map run_facts done ++ fault_facts last ∷ []

-- a recap in lines
abbrev pub facts_text : FleetView → PlayFacts → List ℕ
facts_text fleet facts =
    boundary_lines fleet facts.opened facts.boundaries ++ (host_lines fleet facts.statuses facts.counts ++ end_line fleet facts.end)

-- the status of a host that is down; one that isn't counts as idle, which has no line
abbrev pub if_down : Status → Status
if_down status = if is_down status then status else Idle

-- whether each recap stands under the number of its play
abbrev pub are_several : List Play → Bool
are_several plays = nat_lt 1 (length plays)

-- `play N`, and the recap of that play; of a file of one play the recap alone
abbrev pub headed : Bool → ℕ → List ℕ → List ℕ
headed true number text = field_text (codes "play ") number ++ (codes "\n" ++ text)
headed false number text = text

-- the recaps in lines of runs of a file's plays behind so many; each stands under the number that its play has in the file, from 1
abbrev pub runs_lines_from : ℕ → FleetView → Bool → List Run → List ℕ
runs_lines_from before fleet several runs = text_by_place (λ place run. headed several (place + 1) (facts_text fleet (run_facts run))) before runs

-- the same, and behind them that of the run which a fault broke off
abbrev pub broken_lines_from : ℕ → FleetView → Bool → List Run → RunFault → List ℕ
broken_lines_from before fleet several done last =
    runs_lines_from before fleet several done ++ headed several (before + length done + 1) (facts_text fleet (fault_facts last))

-- the recaps in a form
abbrev pub runs_text_from : Form → ℕ → FleetView → Bool → List Run → List ℕ
runs_text_from Plain before fleet several runs = runs_lines_from before fleet several runs
runs_text_from Json before fleet several runs = recap_json before fleet (map run_facts runs)

abbrev pub broken_text_from : Form → ℕ → FleetView → Bool → List Run → RunFault → List ℕ
broken_text_from Plain before fleet several done last = broken_lines_from before fleet several done last
broken_text_from Json before fleet several done last = recap_json before fleet (broken_facts done last)

-- both from the first play of the file on
abbrev pub runs_text : Form → FleetView → Bool → List Run → List ℕ
runs_text form fleet several runs = runs_text_from form 0 fleet several runs

abbrev pub broken_text : Form → FleetView → Bool → List Run → RunFault → List ℕ
broken_text form fleet several done last = broken_text_from form 0 fleet several done last
