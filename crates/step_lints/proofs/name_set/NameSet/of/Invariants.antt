use Rattle.std.proofs.Common.{◌≡◌, take}
use Rattle.group_tree.specs.Names.{Name, is_among}
use Rattle.step_lints.specs.Inside.{has_missed, names_of}
use Rattle.step_lints.proofs.name_set.NameSet.of.Given as goal

abbrev pub invariant-loop-name : goal.invariant-loop-name
invariant-loop-name l = (name : Name) → has_missed l.missed name ≡ is_among name (names_of (take l.name-index l.names))
