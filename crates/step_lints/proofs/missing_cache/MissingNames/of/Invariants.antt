use Rattle.step_lints.specs.Lacks.{KnowsFacts}
use Rattle.step_lints.proofs.missing_cache.MissingNames.of.Given as goal

abbrev pub invariant-loop-step : goal.invariant-loop-step
invariant-loop-step l = KnowsFacts l.vars l.waiting l.known
