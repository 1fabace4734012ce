-- The journal of a run that began with an inventory.
use Rattle.std.specs.Prelude.{◌≡◌, ◌||◌, ℕ, Bool, true, false, List, ◌++◌, bytes_eq}
use Rattle.std.specs.Option.{option_map_or}
use Rattle.domains.specs.FleetViews.{FleetView}
use Rattle.journal.specs.Digests.{digest_of}
use Rattle.journal.specs.Journals.{IsJournalFault, IsJournalOf}
use Rattle.journal.specs.States.{JournalState}
use Rattle.resume_state.specs.declared.fault.ResumeFault.{ResumeFault}
use Rattle.resume_state.specs.declared.fault.ResumeFault.TheVariants as fault

-- a run that stands there said that it began with this inventory
abbrev pub began_with : List ℕ → JournalState → Bool
began_with inventory state = option_map_or (λ head. bytes_eq head.inventory (digest_of inventory)) state.head false

-- the text is the journal of a run that stands there, and began with this inventory, unless another is meant
pub record IsBegunJournal (fleet : FleetView) (inventory : List ℕ) (takes_others : Bool) (text : List ℕ) (state : JournalState) : Type 0 where
  pub reads : IsJournalOf fleet text state
  pub begun : (takes_others || began_with inventory state) ≡ true

-- the text begins with a journal of a run that began with another
pub record BeginsWithOther (fleet : FleetView) (inventory text : List ℕ) : Type 0 where
  pub front : List ℕ
  pub behind : List ℕ
  pub parts : text ≡ front ++ behind
  pub state : JournalState
  pub reads : IsJournalOf fleet front state
  pub other : began_with inventory state ≡ false

-- why the journal is refused: it is none of the fleet, or of a run that began with another inventory, which is not meant
abbrev pub RefusesBegun : FleetView → List ℕ → Bool → List ℕ → ResumeFault → Type 0
RefusesBegun fleet inventory takes_others text (fault.Journal journal) = IsJournalFault fleet text journal
RefusesBegun fleet inventory takes_others text fault.OtherInputs = (takes_others ≡ false) × BeginsWithOther fleet inventory text
RefusesBegun fleet inventory takes_others text fault.Memory = Unit {0}
RefusesBegun fleet inventory takes_others text (fault.Texts texts) = ⊥
RefusesBegun fleet inventory takes_others text (fault.Mended names) = ⊥
RefusesBegun fleet inventory takes_others text (fault.Over over) = ⊥
RefusesBegun fleet inventory takes_others text (fault.NeedsResult name) = ⊥
