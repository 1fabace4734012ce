use Rattle.std.proofs.Common.{◌≡◌, ◌++◌, false, flat_map, take}
use Rattle.step_lints.specs.Hosts.{lacks, name_note}
use Rattle.step_lints.specs.Inside.{crowd_of, names_of}
use Rattle.lint_rules.specs.Notes.{noted}
use Rattle.step_lints.proofs.steps.warn_names.Given as goal

abbrev pub invariant-loop-name : goal.invariant-loop-name
invariant-loop-name l =
    l.notes ≡ l.initial.notes ++ flat_map (λ name. noted (name_note (crowd_of l.crowd) false (lacks (crowd_of l.crowd)) l.at name)) (names_of (take l.name-index l.names))
