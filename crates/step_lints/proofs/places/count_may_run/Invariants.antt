use Rattle.std.proofs.Common.{◌≡◌, not, take}
use Rattle.std.specs.Prelude.{count_by}
use Rattle.step_lints.specs.Inside.{foreseen_from}
use Rattle.step_lints.proofs.places.count_may_run.Given as goal

abbrev pub invariant-loop-host : goal.invariant-loop-host
invariant-loop-host l =
    l.count ≡ count_by (λ host. not (foreseen_from l.stand l.crowd.lacks.now.vars.now host).is_skipped) (take l.host-index l.crowd.lacks.now.waiting.now)
