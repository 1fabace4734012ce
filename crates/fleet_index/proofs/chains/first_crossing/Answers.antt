use Rattle.std.proofs.Common.{◌<◌, length, arith, sym, ◌∙◌}
use Rattle.std.proofs.lemmas.List.{length-map}
use Rattle.fleet_index.specs.Ids.{group_numbers}
use Rattle.fleet_index.proofs.RisingLemmas.{Ascends-rising, are_below-rising}
use Rattle.fleet_index.proofs.ChainLemmas.{ending_at_last, nested_none, crossing_least, crossing_some}
use Rattle.fleet_index.proofs.chains.first_crossing.Goals as goal

pub first_ending-requires : goal.first_ending-requires
first_ending-requires c = are_below-rising (length c.args.subtree_ends.now) (group_numbers c.args.chain.now) c.requires

pub returns-in_default-first_ending : goal.returns-in_default-first_ending
returns-in_default-first_ending c =
    let ends = c.args.subtree_ends.now in
    let chain = c.args.chain.now in
    let found = ending_at_last ends chain c.in-Some.top.now _ c.in-Some.ensures.item.3.0 (c.in-Some.ensures.item.4 (omega arith) (record { index = 0 })) c.first_ending.ensures.value in
    nested_none ends (group_numbers chain) (Ascends-rising (length ends) (group_numbers chain) c.requires) (found ∙ c.in_default-first_ending.is)

pub returns-in_default-first_past : goal.returns-in_default-first_past
returns-in_default-first_past c =
    let ends = c.args.subtree_ends.now in
    let chain = c.args.chain.now in
    let found = ending_at_last ends chain c.in-Some.top.now _ c.in-Some.ensures.item.3.0 (c.in-Some.ensures.item.4 (omega arith) (record { index = 0 })) c.first_ending.ensures.value in
    let some : 0 < length (group_numbers chain) = simp length-map c.in-Some.ensures.item.3.0 in
    absurd (crossing_some ends (group_numbers chain) (Ascends-rising (length ends) (group_numbers chain) c.requires) c.in-Some-first_ending.first
    (found ∙ c.in-Some-first_ending.is) (sym c.first_past.ensures ∙ c.in_default-first_past.is) some)

pub returns : goal.returns
returns c =
    let ends = c.args.subtree_ends.now in
    let chain = c.args.chain.now in
    let found = ending_at_last ends chain c.in-Some.top.now _ c.in-Some.ensures.item.3.0 (c.in-Some.ensures.item.4 (omega arith) (record { index = 0 })) c.first_ending.ensures.value in
    crossing_least ends (group_numbers chain) (Ascends-rising (length ends) (group_numbers chain) c.requires) c.in-Some-first_ending.first
    c.in-Some-first_past.second (found ∙ c.in-Some-first_ending.is) (sym c.first_past.ensures ∙ c.in-Some-first_past.is)
