-- The errors of a playbook, and the names in its patterns that match nothing.
use Rattle.std.specs.Prelude.{◌≡◌, ℕ, Bool, true, false, Option, None, Some, List}
use Rattle.domains.specs.FleetViews.{FleetView}
use Rattle.play_model.specs.declared.play.Play.{Play}
use Rattle.play_read.specs.Reads.{AreToldOf, IsReadAs}
use Rattle.playbook_schema.specs.declared.told.Told.{Told}
use Rattle.all_faults.specs.PatternNames.{TellsNames, unknown_names}
use Rattle.all_faults.specs.Unread.{has_no_faults}
use Rattle.all_faults.specs.declared.pattern_names.PatternsTold.{PatternsTold}

-- the errors of a playbook, if there is one
abbrev pub IsPlaybookPart : Option (List ℕ) → ℕ → Told → Type 0
IsPlaybookPart None most told = has_no_faults told.faults.items told.more ≡ true
IsPlaybookPart (Some text) most told = AreToldOf 16 text most told

-- the plays of a text without errors; a text with errors has none
abbrev pub ArePlaysIn : List ℕ → Option (List Play) → Type 0
ArePlaysIn text None = ⊥
ArePlaysIn text (Some plays) = IsReadAs 16 text plays

abbrev pub ArePlaysOf : Option (List ℕ) → Bool → Option (List Play) → Type 0
ArePlaysOf None silent plays = plays ≡ None
ArePlaysOf (Some text) true plays = ArePlaysIn text plays
ArePlaysOf (Some text) false plays = plays ≡ None

-- the names in the patterns of plays that match nothing in the fleet, if there are both
abbrev pub NamesTold : Option FleetView → Option (List Play) → ℕ → PatternsTold → Type 0
NamesTold (Some fleet) (Some plays) most told = TellsNames most (unknown_names fleet plays) told
NamesTold (Some fleet) None most told = has_no_faults told.faults.items told.more ≡ true
NamesTold None plays most told = has_no_faults told.faults.items told.more ≡ true

-- the names in the patterns of the text's plays that match nothing in the fleet
pub record IsLookedUp (fleet : FleetView) (text : List ℕ) (most : ℕ) (told : PatternsTold) : Type 0 where
  pub plays : List Play
  pub reads : IsReadAs 16 text plays
  pub tells : TellsNames most (unknown_names fleet plays) told

-- patterns are checked if there are a fleet and a playbook without errors
abbrev pub IsPatternPart : Option FleetView → Option (List ℕ) → Bool → ℕ → PatternsTold → Type 0
IsPatternPart (Some fleet) (Some playbook) true most told = IsLookedUp fleet playbook most told
IsPatternPart (Some fleet) (Some playbook) false most told = has_no_faults told.faults.items told.more ≡ true
IsPatternPart (Some fleet) None read most told = has_no_faults told.faults.items told.more ≡ true
IsPatternPart None playbook read most told = has_no_faults told.faults.items told.more ≡ true
