use Rattle.step_lints.specs.Lacks.{KnowsFacts}
use Rattle.step_lints.proofs.missing_cache.learn_all.Given as goal

abbrev pub invariant-loop-name : goal.invariant-loop-name
invariant-loop-name l = KnowsFacts l.vars l.waiting l.known
