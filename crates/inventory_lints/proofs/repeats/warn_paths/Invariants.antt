use Rattle.std.proofs.Common.{◌≡◌, ◌++◌, take}
use Rattle.inventory_lints.specs.Inside.{noted_paths}
use Rattle.inventory_lints.proofs.repeats.warn_paths.Given as goal

abbrev pub invariant-loop-path : goal.invariant-loop-path
invariant-loop-path l = l.notes ≡ l.initial.notes ++ noted_paths l.document (take l.path-index l.paths)
