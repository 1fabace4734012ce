use Rattle.std.proofs.Common.{◌<◌, ℕ, None, Option, cond, is_some, length, ap, ◌∙◌, arith}
use Rattle.std.specs.List.{count_by}
use Rattle.std.proofs.lemmas.List.{take_all}
use Rattle.std.proofs.lemmas.List.Sums.{sum_by_more}
use Rattle.expectations.proofs.UnmetLemmas.{one_small}
use Rattle.expectations.proofs.judging.count_limited.Goals as goal

pub loop-index-preserved : goal.loop-index-preserved
loop-index-preserved c =
    let limits = c.args.fleet.now.limits in
    let i = c.loop-index.index in
    let f : Option ℕ → ℕ = λ o. cond (is_some o) 1 0 in
    let inside : i < length limits = omega (arith, c.groups-index-end.ensures.count, c.groups-index-end.ensures.sound.all_limits, c.loop-index-test.true) in
    record {
      counted = omega (arith, sum_by_more f limits i None inside, c.loop-index.invariant.counted, c.one_if-count.ensures, ap f c.limit.ensures);
      few = omega (arith, c.loop-index.invariant.few, c.one_if-count.ensures, one_small c.limit.result);
    }

pub overflow_add-count : goal.overflow_add-count
overflow_add-count c =
    omega (arith, c.loop-index.invariant.few, c.one_if-count.ensures, one_small c.limit.result, c.loop-index-test.true)

pub returns : goal.returns
returns c =
    let limits = c.args.fleet.now.limits in
    c.loop-index.invariant.counted
    ∙ ap (count_by is_some) (take_all c.loop-index.index limits (omega (arith, c.groups-index-end.ensures.count, c.groups-index-end.ensures.sound.all_limits, c.loop-index-test.false)))
