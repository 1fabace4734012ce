use Rattle.std.proofs.Common.{◌≡◌, ◌++◌, flat_map, take}
use Rattle.step_lints.specs.Hosts.{misses, name_note}
use Rattle.step_lints.specs.Inside.{crowd_of, missed_from, names_of}
use Rattle.lint_rules.specs.Notes.{noted}
use Rattle.step_lints.proofs.steps.warn_missed.Given as goal

abbrev pub invariant-loop-name : goal.invariant-loop-name
invariant-loop-name l =
    l.notes ≡ l.initial.notes
    ++ flat_map (λ name. noted (name_note (crowd_of l.askers.crowd) l.is_result (misses (missed_from l.askers.stand l.askers.crowd.lacks.now.vars.now)) l.at name)) (names_of (take l.name-index l.names))
