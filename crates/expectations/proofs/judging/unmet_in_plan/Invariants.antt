use Rattle.std.proofs.Common.{◌≡◌, drop}
use Rattle.expectations.specs.Facts.{first_unmet, number_in_plan}
use Rattle.expectations.specs.Shown.{all_shown}
use Rattle.expectations.proofs.judging.unmet_in_plan.Given as goal

abbrev pub invariant-loop-expectation : goal.invariant-loop-expectation
invariant-loop-expectation l = first_unmet (number_in_plan l.answer) (all_shown l.expectations) ≡ first_unmet (number_in_plan l.answer) (drop l.expectation-index (all_shown l.expectations))
