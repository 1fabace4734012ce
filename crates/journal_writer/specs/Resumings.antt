-- What is kept of a run that goes on where another broke off, and what its journal says then.
use Rattle.std.specs.Prelude.{◌≡◌, ◌≤◌, ◌+◌, ◌-◌, ℕ, Bool, true, false, ◌&&◌, not, Option, is_some, List, [], ◌∷◌, length, if◌then◌else◌}
use Rattle.domains.specs.FleetViews.{FleetView}
use Rattle.fleet_index.specs.NumberLists.{has_number}
use Rattle.fleet_states.specs.declared.status.Status.{Status}
use Rattle.fleet_states.specs.declared.status.Status.TheVariants.{Updated}
use Rattle.fleet_states.specs.Statuses.{changed, is_down, status_at}
use Rattle.batch_plan.specs.Beginnings.{restart_statuses}
use Rattle.batch_plan.specs.Inside.{awaited}
use Rattle.journal.specs.Entries.{Entry, entry_text}
use Rattle.journal.specs.Entries as entries
use Rattle.journal.specs.Listings.{outcomes_of, waiting_hosts}
use Rattle.journal.specs.States.{JournalState, are_hosts, is_under_way, plays_of, rested, resumes}
use Rattle.journal_writer.specs.Keepings.{Takes}
use Rattle.journal_writer.specs.Laws.{ComeInTurn, IsSaidTruly, Played, end_of, last_of, run_entries}
use Rattle.roll_run.specs.Journals.{JournalEntry, aside, beginning, closing, ended, heading, opening, refused}

-- the entry of the journal of a run that goes on, with these hosts up by now: the first play to begin may be the one in which it broke off
abbrev pub entry_again : List ℕ → Bool → JournalEntry → Entry
entry_again mended going (heading plays) = entries.resumed mended
entry_again mended true (beginning statuses) = entries.again (waiting_hosts statuses)
entry_again mended false (beginning statuses) = entries.play (waiting_hosts statuses)
entry_again mended going (aside hosts) = entries.held hosts
entry_again mended going (opening behind batch) = entries.opened batch
entry_again mended going (refused behind batch) = entries.opened batch
entry_again mended going (closing batch statuses) = entries.closed (outcomes_of statuses batch)
entry_again mended going (ended end) = entries.ended end

-- once a play has begun, the others are plays that come next
abbrev pub goes_on_behind : Bool → JournalEntry → Bool
goes_on_behind going (heading plays) = going
goes_on_behind going (beginning statuses) = false
goes_on_behind going (aside hosts) = going
goes_on_behind going (opening behind batch) = going
goes_on_behind going (refused behind batch) = going
goes_on_behind going (closing batch statuses) = going
goes_on_behind going (ended end) = going

-- what there is to keep, as entries of that journal
abbrev pub told_again : List ℕ → Bool → List JournalEntry → List Entry
told_again mended going [] = []
told_again mended going (entry ∷ later) = entry_again mended going entry ∷ told_again mended (goes_on_behind going entry) later

-- a journal that has all that was to be kept takes the text; another is left as it is
abbrev pub Adds : {F : Type 0} → (F → Option (List ℕ)) → List ℕ → F → Bool → F → Bool → Type 0
Adds contents text old false new whole = (new ≡ old) × (whole ≡ false)
Adds contents text old true new whole = Takes (contents old) (contents new) text whole

-- what a keeper that goes on does with what there is to keep: it adds it to the journal
abbrev pub AddsAgain : {F : Type 0} → (F → Option (List ℕ)) → List ℕ → Bool → FleetView → JournalEntry → F → Bool → F → Bool → Bool → Type 0
AddsAgain contents mended going fleet entry old was new whole later =
    Adds contents (entry_text fleet (entry_again mended going entry)) old was new whole × (later ≡ goes_on_behind going entry)

-- the statuses with which a run goes on that left these: of the play in which it broke off those wait whom it is for and who are idle; a play that comes next begins
-- as plays do
abbrev pub resumed_start : Bool → List ℕ → List Status → List Status
resumed_start true target statuses = changed awaited target statuses
resumed_start false target statuses = restart_statuses statuses target

-- how many plays stand before the one with which a run goes on that stands there
abbrev pub plays_before : JournalState → ℕ
plays_before said = if is_under_way said then said.play - 1 else said.play

-- a run that stands there by its journal goes on with these plays, with these hosts up by now; of its plays no more are left
pub record GoesOn (fleet : FleetView) (said : JournalState) (mended : List ℕ) (first : Played) (later : List Played) : Type 0 where
  pub known : is_some said.head ≡ true
  pub hosts : are_hosts fleet mended ≡ true
  pub target : List ℕ
  pub starts : first.roll.start ≡ resumed_start (is_under_way (resumes said mended)) target (rested mended said.statuses)
  pub in_turn : ComeInTurn first later
  pub few : plays_before (resumes said mended) + 1 + length later ≤ plays_of said.head

-- at whatever moment of a run that goes on, its journal says truly where it stands
abbrev pub ResumedRunsAreSaidTruly : Type 0
ResumedRunsAreSaidTruly =
    (fleet : FleetView) (said : JournalState) (mended : List ℕ) (plays : ℕ) (first : Played) (later : List Played) → GoesOn fleet said mended first later
    → IsSaidTruly fleet said (told_again mended (is_under_way (resumes said mended)) (heading plays ∷ run_entries first later)) (end_of (last_of first later))

-- a run that goes on counts everybody as down who is so by its journal, but for those who are up by now, and nobody else
abbrev pub ResumesCountWhoIsDown : Type 0
ResumesCountWhoIsDown =
    (going : Bool) (target mended : List ℕ) (statuses : List Status) (host : ℕ)
    → is_down (status_at (resumed_start going target (rested mended statuses)) host) ≡ (is_down (status_at statuses host) && not (has_number host mended))

-- who was updated stays so in the play that goes on
abbrev pub UpdatedHostsStay : Type 0
UpdatedHostsStay =
    (target mended : List ℕ) (statuses : List Status) (host : ℕ) → status_at statuses host ≡ Updated
    → status_at (resumed_start true target (rested mended statuses)) host ≡ Updated
