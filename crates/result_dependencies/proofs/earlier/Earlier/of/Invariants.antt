use Rattle.std.proofs.Common.{◌≡◌, take}
use Rattle.group_tree.specs.Names.{Name}
use Rattle.result_dependencies.specs.Registers.{is_registered_in}
use Rattle.result_dependencies.specs.Lookups.{has_gathered}
use Rattle.result_dependencies.proofs.earlier.Earlier.of.Given as goal

abbrev pub invariant-loop-play : goal.invariant-loop-play
invariant-loop-play l =
    (name : Name) → has_gathered l.earlier name ≡ is_registered_in (take l.play-index l.plays) name
