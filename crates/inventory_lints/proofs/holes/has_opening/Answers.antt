use Rattle.std.proofs.Common.{sym, ap, ◌∙◌, arith}
use Rattle.std.proofs.lemmas.List.{drop_all}
use Rattle.text_syntax.specs.Words.{is_opening}
use Rattle.inventory_lints.specs.Holes.{has_opening}
use Rattle.inventory_lints.proofs.HoleLemmas.{found_behind, found_here}
use Rattle.inventory_lints.proofs.holes.has_opening.Goals as goal

pub loop-place-preserved : goal.loop-place-preserved
loop-place-preserved c =
    found_behind is_opening c.args.bytes.now c.loop-place.place c.loop-place-test.true (sym (ap is_opening c.bytes_behind.ensures) ∙ sym c.is_opening.ensures ∙ c.if-is_opening.false)
    ∙ c.loop-place.invariant

pub returns-then-is_opening : goal.returns-then-is_opening
returns-then-is_opening c =
    sym (found_here is_opening c.args.bytes.now c.loop-place.place c.loop-place-test.true (sym (ap is_opening c.bytes_behind.ensures) ∙ sym c.is_opening.ensures ∙ c.if-is_opening.true))
    ∙ c.loop-place.invariant

pub returns : goal.returns
returns c =
    sym (ap has_opening (drop_all c.loop-place.place c.args.bytes.now (omega arith))) ∙ c.loop-place.invariant
