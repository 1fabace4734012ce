-- What holds of the texts of inventories and playbooks.
use Rattle.std.specs.Prelude.{◌≡◌, ℕ, List}
use Rattle.group_tree.specs.Places.{Inventory}
use Rattle.inventory_read.specs.Reads.{IsReadAs}
use Rattle.plan_command.specs.PlanTexts.{IsPlanText}
use Rattle.plan_command.specs.declared.end.End.{End}

-- a text says one inventory at most, and so one table of limits
abbrev pub OneInventory : Type 0
OneInventory = (text : List ℕ) (inventory other : Inventory) → IsReadAs text inventory → IsReadAs text other → inventory ≡ other

-- an inventory's text and a playbook's have one text of a plan at most, and one end
abbrev pub OnePlanText : Type 0
OnePlanText =
    (inventory playbook text other : List ℕ) (end otherwise : End) → IsPlanText inventory playbook text end → IsPlanText inventory playbook other otherwise
    → (text ≡ other) × (end ≡ otherwise)
