-- What a journal that was cut off, or has a line more, says of its run.
use Rattle.std.specs.Prelude.{◌≡◌, ℕ, ◌≤◌, Bool, true, false, Some, List, [], ◌∷◌, ◌++◌, length, take}
use Rattle.std.specs.List.{list_all}
use Rattle.domains.specs.FleetViews.{FleetView, IsSound}
use Rattle.fleet_states.specs.Statuses.{is_down, status_at}
use Rattle.event_log.specs.States.{State}
use Rattle.journal.specs.Entries.{Entry, again, begun, closed, ended, entries_text, held, opened, play, resumed}
use Rattle.journal.specs.Laws.{IsReadOnlyAs}
use Rattle.journal.specs.Lines.{max_body}
use Rattle.journal.specs.Names.{HasPlainNames}
use Rattle.journal.specs.States.{JournalState, state_after}
use Rattle.journal_writer.specs.Laws.{IsUnderWay, Played, end_of, last_of, run_entries, told}
use Rattle.roll_run.specs.Journals.{heading}

-- the entry opens no batch
abbrev pub opens_none : Entry → Bool
opens_none (begun head) = true
opens_none (play hosts) = true
opens_none (held hosts) = true
opens_none (opened hosts) = false
opens_none (closed outcomes) = true
opens_none (ended end) = true
opens_none (resumed hosts) = true
opens_none (again hosts) = true

-- the entry may stand in a journal before what it says has come to be in the log: a batch opens, or the play has ended
abbrev pub may_be_ahead : Entry → Bool
may_be_ahead (begun head) = false
may_be_ahead (play hosts) = false
may_be_ahead (held hosts) = false
may_be_ahead (opened hosts) = true
may_be_ahead (closed outcomes) = false
may_be_ahead (ended end) = true
may_be_ahead (resumed hosts) = false
may_be_ahead (again hosts) = false

-- a reader takes these entries for a journal, and by them everybody is down who is so in the log's state
pub record LosesNobody (fleet : FleetView) (entries : List Entry) (state : State) : Type 0 where
  pub said : JournalState
  pub leads : state_after fleet entries ≡ Some said
  pub down : (host : ℕ) → is_down (status_at state.statuses host) ≡ true → is_down (status_at said.statuses host) ≡ true

-- the entries of a run of these texts, so far
abbrev pub run_told : List ℕ → List ℕ → ℕ → Played → List Played → List Entry
run_told inventory playbook plays first later = told inventory playbook (heading plays ∷ run_entries first later)

-- with whatever is lost of a journal behind its last entry that opens a batch, nobody is lost
abbrev pub TruncationKeepsDownHosts : Type 0
TruncationKeepsDownHosts =
    (fleet : FleetView) (inventory playbook : List ℕ) (plays : ℕ) (first : Played) (later : List Played) (left lost : List Entry) → IsUnderWay fleet plays first later
    → run_told inventory playbook plays first later ≡ left ++ lost → list_all opens_none lost ≡ true → LosesNobody fleet left (end_of (last_of first later))

-- nor with one entry more that is ahead of the log
abbrev pub ExtraEntryKeepsDownHosts : Type 0
ExtraEntryKeepsDownHosts =
    (fleet : FleetView) (inventory playbook : List ℕ) (plays : ℕ) (first : Played) (later : List Played) (more : Entry) (said : JournalState) → IsUnderWay fleet plays first later
    → may_be_ahead more ≡ true → state_after fleet (run_told inventory playbook plays first later ++ more ∷ []) ≡ Some said
    → LosesNobody fleet (run_told inventory playbook plays first later ++ more ∷ []) (end_of (last_of first later))

-- entries are read of the text, and no others; the journal begins with them, and where the rest opens no batch nobody is lost with it
pub record IsReadWithoutLoss (fleet : FleetView) (text : List ℕ) (entries : List Entry) (state : State) : Type 0 where
  pub left : List Entry
  pub lost : List Entry
  pub parts : entries ≡ left ++ lost
  pub reads : IsReadOnlyAs fleet text left
  pub loses : list_all opens_none lost ≡ true → LosesNobody fleet left state

-- the same of the bytes of a journal, wherever it is cut off
abbrev pub CutBytesKeepDownHosts : Type 0
CutBytesKeepDownHosts =
    (fleet : FleetView) (inventory playbook : List ℕ) (plays : ℕ) (first : Played) (later : List Played) (count : ℕ) → IsSound fleet → HasPlainNames fleet → IsUnderWay fleet plays first later
    → length (entries_text fleet (run_told inventory playbook plays first later)) ≤ max_body
    → IsReadWithoutLoss fleet (take count (entries_text fleet (run_told inventory playbook plays first later))) (run_told inventory playbook plays first later) (end_of (last_of first later))
