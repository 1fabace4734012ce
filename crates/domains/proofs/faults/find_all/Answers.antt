use Rattle.std.proofs.Common.{◌≡◌, ◌<◌, length, ap, ◌∙◌, arith}
use Rattle.std.proofs.lemmas.Bool.Decides.{nat_tests}
use Rattle.std.proofs.lemmas.Result.{IfOk-weaker}
use Rattle.domains.proofs.BuildLemmas.{chains_rise, known, limits_len, subtree_ends_len}
use Rattle.domains.proofs.FindingLemmas.{all_same, found_crossings, found_overs, small_square}
use Rattle.domains.proofs.faults.find_all.Goals as goal

pub find_crossings-requires-clause-rising : goal.find_crossings-requires-clause-rising
find_crossings-requires-clause-rising c =
    let k = c.requires.numbered in
    rw (c.as_slice-chains.ensures.value, c.as_slice-ends.ensures.value) (chains_rise k.0 c.args.numbers.now c.args.lists.now k.1 k.2 c.requires.lists)

pub find_crossings-requires-clause-few : goal.find_crossings-requires-clause-few
find_crossings-requires-clause-few c =
    let k = c.requires.numbered in
    small_square (length c.as_slice-ends.result.now)
    (omega (arith, ap length c.as_slice-ends.ensures.value, subtree_ends_len k.0 c.args.numbers.now c.args.lists.now k.1 k.2 c.requires.lists, k.2.groups))

pub find_overs-requires : goal.find_overs-requires
find_overs-requires c =
    let k = c.requires.numbered in
    rw (c.as_slice-limits.ensures.value, c.as_slice-members.ensures.value) (limits_len k.0 c.args.numbers.now c.args.lists.now k.1 k.2 c.requires.lists)

pub returns-then-not-is_empty : goal.returns-then-not-is_empty
returns-then-not-is_empty c = λ inventory numbered within.
    let some : 0 < length c.in_ok-crossings.crossings.items = grind (arith, nat_tests, c.is_empty.ensures, c.if-not-is_empty.true, c.in_ok-crossings.crossings.ok.0) in
    let found = rw (c.as_slice-chains.ensures.value, c.as_slice-ends.ensures.value) at c.in_ok-crossings.ensures in
    found_crossings _ _ _ some found ∙ all_same (known inventory c.args.numbers.now c.args.lists.now numbered within c.requires.lists)

pub returns : goal.returns
returns c = λ inventory numbered within.
    let none : length c.in_ok-crossings.crossings.items ≡ 0 = grind (arith, nat_tests, c.is_empty.ensures, c.if-not-is_empty.false, c.in_ok-crossings.crossings.ok.0) in
    let crossings = rw (c.as_slice-chains.ensures.value, c.as_slice-ends.ensures.value) at c.in_ok-crossings.ensures in
    let overs = rw (c.as_slice-members.ensures.value, c.as_slice-limits.ensures.value, c.as_slice.ensures.value) at c.find_overs.ensures in
    IfOk-weaker c.find_overs.result _ _
    (λ found is. found_overs _ _ _ _ none crossings is ∙ all_same (known inventory c.args.numbers.now c.args.lists.now numbered within c.requires.lists)) overs
