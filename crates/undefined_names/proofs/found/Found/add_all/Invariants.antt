use Rattle.std.proofs.Common.{◌≡◌, drop}
use Rattle.undefined_names.specs.Lent.{lent_names, names_found}
use Rattle.undefined_names.specs.UndefinedReads.{once_behind}
use Rattle.undefined_names.proofs.found.Found.add_all.Given as goal

-- what is left goes behind what was found
abbrev pub invariant-loop-name : goal.invariant-loop-name
invariant-loop-name l =
    once_behind (names_found l.self) (lent_names (drop l.name-index l.names)) ≡ once_behind (names_found l.initial.self) (lent_names l.names)
