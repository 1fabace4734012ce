use Rattle.std.proofs.Common.{◌≡◌, ℕ, ◌<◌, None, length, get_or, take}
use Rattle.batch_plan.specs.Nodes.{side_by_side}
use Rattle.batch_plan.specs.Inside.{told_by}
use Rattle.batch_plan.proofs.counting.+record_all.Given as goal

abbrev pub decreases-record_all : goal.decreases-record_all
decreases-record_all g l = length (side_by_side l.trees.now)

abbrev pub invariant-loop-tree : goal.invariant-loop-tree
invariant-loop-tree g l =
    record {
      len : length l.needs ≡ length l.initial.needs;
      told : (group : ℕ) → group < length l.initial.needs
          → get_or l.needs group None ≡ told_by l.fleet.limits (side_by_side (take l.tree-index l.trees)) group (get_or l.initial.needs group None);
    }
