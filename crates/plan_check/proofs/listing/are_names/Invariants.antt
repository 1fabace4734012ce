use Rattle.std.proofs.Common.{◌≡◌, length}
use Rattle.std.specs.List.{list_all}
use Rattle.group_tree.specs.Names.{is_name}
use Rattle.rehearse.specs.Commands.{words_of}
use Rattle.plan_check.proofs.listing.are_names.Given as goal

abbrev pub invariant-loop-word : goal.invariant-loop-word
invariant-loop-word l = list_all is_name (words_of l.words) ≡ list_all is_name (words_of l.left)

abbrev pub decreases-loop-word : goal.decreases-loop-word
decreases-loop-word l = length l.left
