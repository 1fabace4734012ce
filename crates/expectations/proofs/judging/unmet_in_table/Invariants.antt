use Rattle.std.proofs.Common.{◌≡◌, drop}
use Rattle.expectations.specs.Facts.{first_unmet, number_in_table}
use Rattle.expectations.specs.Shown.{all_shown}
use Rattle.expectations.proofs.judging.unmet_in_table.Given as goal

abbrev pub invariant-loop-expectation : goal.invariant-loop-expectation
invariant-loop-expectation l = first_unmet (number_in_table l.fleet) (all_shown l.expectations) ≡ first_unmet (number_in_table l.fleet) (drop l.expectation-index (all_shown l.expectations))
