use Rattle.std.proofs.Common.{[], ◌∙◌, sym}
use Rattle.expectations.specs.Facts.{number_in_table}
use Rattle.expectations.specs.declared.expectation.Relation.TheVariants.{Equal}
use Rattle.expectations.proofs.UnmetLemmas.{kept_here, kept_later}
use Rattle.expectations.proofs.judging.unmet_in_table.Goals as goal

pub returns-then-not-is_met : goal.returns-then-not-is_met
returns-then-not-is_met c =
    kept_here (number_in_table c.args.fleet.now) c.args.expectations.now c.loop-expectation.expectation-index
    (record { name = record { ref_ptr = (0, 0); now = [] }; relation = Equal; number = 0 })
    c.loop-expectation-test.true c.number_of-found.result c.number_of-found.ensures (sym c.is_met.ensures ∙ c.if-not-is_met.true)
    ∙ sym c.loop-expectation.invariant

pub loop-expectation-preserved : goal.loop-expectation-preserved
loop-expectation-preserved c =
    c.loop-expectation.invariant
    ∙ kept_later (number_in_table c.args.fleet.now) c.args.expectations.now c.loop-expectation.expectation-index
    (record { name = record { ref_ptr = (0, 0); now = [] }; relation = Equal; number = 0 })
    c.loop-expectation-test.true c.number_of-found.result c.number_of-found.ensures (sym c.is_met.ensures ∙ c.if-not-is_met.false)
