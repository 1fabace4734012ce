use Rattle.std.proofs.Common.{◌≡◌, true, false, drop, arith, [], ap, sym, ◌∙◌}
use Rattle.std.proofs.lemmas.List.{drop_all}
use Rattle.text_syntax.specs.Words.{is_opening, plain_length}
use Rattle.text_syntax.proofs.PlainLemmas.{at_opening, at_other, plain_length-nil, rest_is}
use Rattle.text_syntax.proofs.parts.count_plain.Goals as goal

pub returns-then-is_opening : goal.returns-then-is_opening
returns-then-is_opening c =
    let rest = drop c.loop-index.index c.args.bytes.now in
    let opens : is_opening rest ≡ true = ap is_opening (rest_is c.args.bytes.now c.loop-index.index) ∙ sym c.is_opening.ensures ∙ c.if-is_opening.true in
    let here : plain_length rest ≡ 0 = at_opening rest opens in
    omega (arith, here)

pub loop-index-preserved : goal.loop-index-preserved
loop-index-preserved c =
    let rest = drop c.loop-index.index c.args.bytes.now in
    let other : is_opening rest ≡ false = ap is_opening (rest_is c.args.bytes.now c.loop-index.index) ∙ sym c.is_opening.ensures ∙ c.if-is_opening.false in
    let next = at_other c.args.bytes.now c.loop-index.index (omega arith) other in
    omega (arith, next)

pub returns : goal.returns
returns c =
    let none : plain_length (drop c.loop-index.index c.args.bytes.now) ≡ plain_length [] = ap plain_length (drop_all c.loop-index.index c.args.bytes.now (omega arith)) in
    omega (arith, none, plain_length-nil)
