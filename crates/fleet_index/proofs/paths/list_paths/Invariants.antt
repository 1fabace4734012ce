use Rattle.std.proofs.Common.{◌≡◌, ◌++◌, drop, []}
use Rattle.fleet_index.specs.GroupPaths.{paths_from}
use Rattle.fleet_index.proofs.paths.list_paths.Given as goal

abbrev pub invariant-loop-number : goal.invariant-loop-number
invariant-loop-number l =
    l.paths ++ paths_from l.path.items l.number (drop l.number l.depths) ≡ paths_from [] 0 l.initial.depths
