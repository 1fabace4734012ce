use Rattle.std.proofs.Common.{ℕ, ◌<◌}
use Rattle.fleet_index.specs.NumberLists.{list_at}
use Rattle.domains.specs.Ids.{group_lists}
use Rattle.fleet_index.specs.Chains.{IsNestedChain}
use Rattle.domains.proofs.crossings.are_nested.Given as goal

abbrev pub invariant-loop-host : goal.invariant-loop-host
invariant-loop-host l = (earlier : ℕ) → earlier < l.host → IsNestedChain l.ends (list_at (group_lists l.chains) earlier)
