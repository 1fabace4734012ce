-- What holds of every session.
use Rattle.std.specs.Prelude.{ℕ, List}
use Rattle.fleet_states.specs.Starts.{start_statuses}
use Rattle.play_forecast.specs.PlayPlans.{targets}
use Rattle.rehearse.specs.Plays.{IsRehearsalOf}
use Rattle.rehearse.specs.Stacks.{RehearsalView}
use Rattle.rehearse.specs.Openings.{IsOpeningIn}
use Rattle.rehearse.specs.Histories.{HistoryView, unbegun}
use Rattle.rehearse.specs.Replies.{Telling}
use Rattle.rehearse.specs.Sessions.{Session}

-- wherever a session comes that begins with the opening of two texts, however it is answered, there stands a rehearsal of their first play
abbrev pub SessionsRehearse : Type 0
SessionsRehearse =
    (tell : Telling) (inventory playbook : List ℕ) (before : RehearsalView) (lines : List (List ℕ)) (text : List ℕ) (after : HistoryView) (opening : IsOpeningIn inventory playbook before)
    → Session tell (unbegun before) lines text after → IsRehearsalOf opening.fleet opening.play (start_statuses opening.fleet (targets opening.fleet opening.play)) after.place.rehearsal
