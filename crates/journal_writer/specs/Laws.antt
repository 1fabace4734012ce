-- What the journal of a run says of it.
use Rattle.std.specs.Prelude.{◌≡◌, ◌<◌, ◌≤◌, ℕ, true, false, None, Some, List, [], ◌∷◌, ◌++◌, length, map, take}
use Rattle.domains.specs.FleetViews.{FleetView}
use Rattle.fleet_index.specs.NumberLists.{has_number}
use Rattle.fleet_states.specs.declared.status.Status.{Status}
use Rattle.fleet_states.specs.declared.status.Status.TheVariants.{Running}
use Rattle.fleet_states.specs.Starts.{start_statuses}
use Rattle.fleet_states.specs.Statuses.{is_down, status_at}
use Rattle.batch_plan.specs.Beginnings.{restart_statuses}
use Rattle.play_forecast.specs.declared.end.End.TheVariants.{Finished}
use Rattle.event_log.specs.Events.{Event}
use Rattle.event_log.specs.Laws.{front}
use Rattle.event_log.specs.Logs.{IsLegal, end_state}
use Rattle.event_log.specs.Rolls.{Roll}
use Rattle.event_log.specs.States.{State, between, start_state}
use Rattle.journal.specs.Entries.{Entry}
use Rattle.journal.specs.Listings.{waiting_hosts}
use Rattle.journal.specs.States.{JournalState, follow, is_under_way, may_begin, start}
use Rattle.journal_writer.specs.Keepings.{entry_of, most_plays}
use Rattle.roll_run.specs.Journals.{JournalEntry, heading, play_entries}

-- of the hosts of the open batch the journal says that they are at work, until the batch is over; of every other host it says what the log does
pub record SaysTruly (said : JournalState) (state : State) : Type 0 where
  pub going : is_under_way said ≡ true
  pub batch : said.open_batch ≡ state.batch
  pub all : length said.statuses ≡ length state.statuses
  pub inside : (host : ℕ) → has_number host state.batch ≡ true → status_at said.statuses host ≡ Running
  pub outside : (host : ℕ) → has_number host state.batch ≡ false → status_at said.statuses host ≡ status_at state.statuses host

-- these entries may come next in a journal, and lead it where it says truly of the log's state; the same hosts are down by both, and where no batch is open
-- each host has the same status
pub record IsSaidTruly (fleet : FleetView) (said : JournalState) (entries : List Entry) (state : State) : Type 0 where
  pub later : JournalState
  pub leads : follow fleet said entries ≡ Some later
  pub truly : SaysTruly later state
  pub down : (host : ℕ) → is_down (status_at later.statuses host) ≡ is_down (status_at state.statuses host)
  pub rests : state.phase ≡ between → later.statuses ≡ state.statuses

-- a play may come next in the journal: there is one more, and no batch is open; it begins with those statuses that are left to the hosts for which it is
pub record MayComeNext (said : JournalState) (statuses : List Status) : Type 0 where
  pub begins : may_begin said ≡ true
  pub nobody : said.open_batch ≡ []
  pub starts : restart_statuses said.statuses (waiting_hosts statuses) ≡ statuses

-- what there is to keep, as the entries of a journal of a run of these texts
abbrev pub told : List ℕ → List ℕ → List JournalEntry → List Entry
told inventory playbook entries = map (entry_of inventory playbook) entries

-- at whatever moment of a play, the entries of its log up to there say truly where it stands
abbrev pub PlaysAreSaidTruly : Type 0
PlaysAreSaidTruly =
    (fleet : FleetView) (inventory playbook : List ℕ) (said : JournalState) (roll : Roll) (log : List Event) (n : ℕ) → MayComeNext said roll.start
    → IsLegal roll (start_state roll) log → IsSaidTruly fleet said (told inventory playbook (play_entries roll (take n log) None)) (front roll log n)

-- a play of a run, with its log so far
pub record Played : Type 0 where
  pub roll : Roll
  pub log : List Event

-- where it stands
abbrev pub end_of : Played → State
end_of played = end_state played.roll played.log

-- behind a play that is over the next begins with these statuses: those that are left to the hosts for which it is
pub record BeginsBehind (before : Played) (statuses : List Status) : Type 0 where
  pub over : (end_of before).phase ≡ between
  pub target : List ℕ
  pub starts : statuses ≡ restart_statuses (end_of before).statuses target

-- plays come one behind the other, and the log of each is legal
abbrev pub ComeInTurn : Played → List Played → Type 0
ComeInTurn played [] = IsLegal played.roll (start_state played.roll) played.log
ComeInTurn played (next ∷ later) =
    IsLegal played.roll (start_state played.roll) played.log × BeginsBehind played next.roll.start × ComeInTurn next later

-- so many plays are to come, no more than a head can tell, and these of them have begun, the first with the statuses that the fleet gives the hosts for which
-- it is
pub record IsUnderWay (fleet : FleetView) (plays : ℕ) (first : Played) (later : List Played) : Type 0 where
  pub target : List ℕ
  pub starts : first.roll.start ≡ start_statuses fleet target
  pub in_turn : ComeInTurn first later
  pub few : length later < plays
  pub fits : plays ≤ most_plays

-- what there is to keep of plays, all of which have finished but the last
abbrev pub run_entries : Played → List Played → List JournalEntry
run_entries played [] = play_entries played.roll played.log None
run_entries played (next ∷ later) = play_entries played.roll played.log (Some Finished) ++ run_entries next later

abbrev pub last_of : Played → List Played → Played
last_of played [] = played
last_of played (next ∷ later) = last_of next later

-- at whatever moment of a run, its journal says truly where it stands
abbrev pub JournalMatchesRun : Type 0
JournalMatchesRun =
    (fleet : FleetView) (inventory playbook : List ℕ) (plays : ℕ) (first : Played) (later : List Played) → IsUnderWay fleet plays first later
    → IsSaidTruly fleet (start fleet) (told inventory playbook (heading plays ∷ run_entries first later)) (end_of (last_of first later))
