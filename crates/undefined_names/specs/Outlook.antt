-- What is known of a condition at the outset: whether it holds, where that is known, and which names it may look up in vain, in the order of reading.
use Rattle.std.specs.Prelude.{ℕ, Bool, true, false, not, ◌&&◌, bytes_eq, codes, if◌then◌else◌, Option, Some, None, option_map, List, [], ◌∷◌, ◌++◌, map, take, drop, string_bytes, box_value}
use Rattle.group_tree.specs.Names.{Name}
use Rattle.group_tree.specs.Variables.{Text, Int, Truth}
use Rattle.cond.specs.Grammar as grammar
use Rattle.cond.specs.Grammar.{Ref, whole, part, hostname}
use Rattle.cond.specs.Meaning.{Value, Plain, contrary_if, same_value, value_holds}
use Rattle.undefined_names.specs.InitialEnv.{InitialEnv, NameStatus, variable, registered, perhaps, nothing, has_value, known_at}
use Rattle.cond.specs.Trees.{written, bytes_of, trees_of}
use Rattle.cond.specs.declared.tree.Tree.{Tree}
use Rattle.cond.specs.declared.tree.Tree.TheOpen.{Tree-F}
use Rattle.cond.specs.declared.tree.Tree.TheOpen as tree
use Rattle.cond.specs.declared.tree.Tree.TheFolds.{fold-Tree}
use Rattle.cond.specs.declared.condition.Part.{Part}
use Rattle.cond.specs.declared.condition.Part.TheVariants as kept
use Rattle.cond.specs.declared.condition.Cond.{Cond}

pub record Outlook : Type 0 where
  pub holds : Option Bool
  pub missed : List Name

-- nothing may be there under the name
abbrev pub is_missed : NameStatus → Bool
is_missed (variable scalar) = false
is_missed registered = false
is_missed (perhaps is_variable) = not is_variable
is_missed nothing = true

-- no result may be there. That a result has no `rc` isn't foreseen.
abbrev pub is_result_missed : NameStatus → Bool
is_result_missed (variable scalar) = true
is_result_missed registered = false
is_result_missed (perhaps is_variable) = true
is_result_missed nothing = true

abbrev pub missed_if : Bool → Name → List Name
missed_if is_missed name = if is_missed then name ∷ [] else []

abbrev pub missed_in_ref : InitialEnv → Ref → List Name
missed_in_ref outset (whole name) = missed_if (is_missed (outset.standing name)) name
missed_in_ref outset (part name field) = missed_if (is_result_missed (outset.standing name)) name
missed_in_ref outset hostname = []

abbrev pub known_operand : InitialEnv → grammar.Operand → Option Value
known_operand outset (grammar.text bytes) = Some (Plain (Text bytes))
known_operand outset (grammar.number value) = Some (Plain (Int value))
known_operand outset (grammar.truth value) = Some (Plain (Truth value))
known_operand outset (grammar.ref of) = known_at outset of

abbrev pub missed_in_operand : InitialEnv → grammar.Operand → List Name
missed_in_operand outset (grammar.text bytes) = []
missed_in_operand outset (grammar.number value) = []
missed_in_operand outset (grammar.truth value) = []
missed_in_operand outset (grammar.ref of) = missed_in_ref outset of

abbrev pub known_same : Option Value → Option Value → Option Bool
known_same (Some left) (Some right) = Some (same_value left right)
known_same (Some left) None = None
known_same None right = None

-- a group of this name other than `all` holds the host
abbrev pub is_inside : InitialEnv → Name → Bool
is_inside outset group = not (bytes_eq group (codes "all")) && outset.in_group group

-- whether a test holds, where that is known
abbrev pub eval_partially : InitialEnv → grammar.Test → Option Bool
eval_partially outset (grammar.stands name contrary state) = None
eval_partially outset (grammar.defined of contrary) = option_map (contrary_if contrary) (has_value outset of)
eval_partially outset (grammar.equals left contrary right) =
    option_map (contrary_if contrary) (known_same (known_operand outset left) (known_operand outset right))
eval_partially outset (grammar.within group contrary) = Some (contrary_if contrary (is_inside outset group))
eval_partially outset (grammar.alone operand) = option_map value_holds (known_operand outset operand)

-- who asks whether a name is defined misses nothing
abbrev pub missed_in_test : InitialEnv → grammar.Test → List Name
missed_in_test outset (grammar.stands name contrary state) = missed_if (is_result_missed (outset.standing name)) name
missed_in_test outset (grammar.defined of contrary) = []
missed_in_test outset (grammar.equals left contrary right) = missed_in_operand outset left ++ missed_in_operand outset right
missed_in_test outset (grammar.within group contrary) = []
missed_in_test outset (grammar.alone operand) = missed_in_operand outset operand

abbrev pub test_outlook : InitialEnv → grammar.Test → Outlook
test_outlook outset test = record { holds = eval_partially outset test; missed = missed_in_test outset test }

abbrev pub turned : Bool → Outlook → Outlook
turned contrary outlook = record { holds = option_map (contrary_if contrary) outlook.holds; missed = outlook.missed }

-- a part that is known to hold decides a chain of `or`, and one that is known not to hold a chain of `and`
abbrev pub decides : Bool → Option Bool → Bool
decides deciding None = false
decides true (Some holds) = holds
decides false (Some holds) = not holds

-- a part that is not known may be what decides
abbrev pub known_chain : Bool → Option Bool → Option Bool → Option Bool
known_chain deciding None later = if decides deciding later then Some deciding else None
known_chain deciding (Some holds) later = if decides deciding (Some holds) then Some deciding else later

-- what stands behind the part that decides is not read
abbrev pub linked : Bool → Outlook → Outlook → Outlook
linked deciding first later = record {
  holds = known_chain deciding first.holds later.holds;
  missed = first.missed ++ (if decides deciding first.holds then [] else later.missed);
}

-- a chain of `or` where `true` decides, and of `and` where `false` does
abbrev pub chained : Bool → List Outlook → Outlook
chained deciding [] = record { holds = Some (not deciding); missed = [] }
chained deciding (first ∷ later) = linked deciding first (chained deciding later)

-- one level, with the outlooks of those below it
abbrev pub outlook_step : List ℕ → InitialEnv → Tree-F Outlook → Outlook
outlook_step text outset (tree.Either parts) = chained true parts.items
outlook_step text outset (tree.Both parts) = chained false parts.items
outlook_step text outset (tree.Negated below) = turned true (box_value below)
outlook_step text outset (tree.Leaf test) = test_outlook outset (written text test)
outlook_step text outset (tree.Denied test) = turned true (test_outlook outset (written text test))

abbrev pub tree_outlook : List ℕ → InitialEnv → Tree → Outlook
tree_outlook text outset = fold-Tree Outlook (outlook_step text outset)

abbrev pub part_outlook : InitialEnv → List ℕ → List Tree → Part → Outlook
part_outlook outset text trees (kept.Test denied bytes test) = turned denied (test_outlook outset (written text test))
part_outlook outset text trees (kept.Trees bytes count) = chained false (map (tree_outlook text outset) trees)

-- of each part; their texts stand one behind the other, and so do their trees
abbrev pub outlooks : InitialEnv → List ℕ → List Tree → List Part → List Outlook
outlooks outset text trees [] = []
outlooks outset text trees (one ∷ parts) =
    part_outlook outset (take (bytes_of one) text) (take (trees_of one) trees) one ∷ outlooks outset (drop (bytes_of one) text) (drop (trees_of one) trees) parts

-- of a condition: all its parts have to hold
abbrev pub outlook_of : InitialEnv → Cond → Outlook
outlook_of outset condition =
    chained false (outlooks outset (string_bytes condition.text) condition.trees.items condition.parts.items)
