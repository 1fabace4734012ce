-- Expectations as they are kept.
use Rattle.std.specs.Prelude.{List, map, string_bytes}
use Rattle.expectations.specs.Lists as lists
use Rattle.expectations.specs.Facts as facts
use Rattle.expectations.specs.declared.expectation.Expectation.{Expectation}
use Rattle.expectations.specs.declared.expectation.Unmet.{Unmet}
use Rattle.expectations.specs.declared.unexpected.Unexpected.{Unexpected}

abbrev pub shown : Expectation → lists.Expectation
shown expectation = record { name = expectation.name.now; relation = expectation.relation; number = expectation.number }

abbrev pub all_shown : List Expectation → List lists.Expectation
all_shown expectations = map shown expectations

abbrev pub unmet_shown : Unmet → facts.Unmet
unmet_shown unmet = record { expectation = shown unmet.expectation; found = unmet.found }

abbrev pub unexpected_shown : Unexpected → facts.Unmet
unexpected_shown unexpected = record {
  expectation = record { name = string_bytes unexpected.name; relation = unexpected.relation; number = unexpected.number };
  found = unexpected.found;
}
