use Rattle.std.proofs.Common.{◌≡◌, ◌++◌, map}
use Rattle.serde_json.specs.View.{members_view}
use Rattle.group_tree.specs.Scalars.{lent_variable}
use Rattle.text_syntax.specs.Shapes.{entries}
use Rattle.inventory_read.specs.Values as values
use Rattle.inventory_read.proofs.variables.variables_of.Given as goal

abbrev pub invariant-loop-name : goal.invariant-loop-name
invariant-loop-name l =
    map lent_variable l.found.items ++ values.variables_of (entries (members_view l.name-iterator)) ≡ values.variables_of (entries (members_view l.object.entries))
