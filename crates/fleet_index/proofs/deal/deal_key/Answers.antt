use Rattle.std.proofs.Common.{◌∙◌, sym, ap, ◌+◌, arith}
use Rattle.group_tree.specs.declared.ids.GroupId.{GroupId}
use Rattle.fleet_index.proofs.DealLemmas.{key_of}
use Rattle.fleet_index.proofs.deal.deal_key.Goals as goal

pub returns-in-Some : goal.returns-in-Some
returns-in-Some c =
    ap (λ (group : GroupId). group.index + 1) (c.in-Some.ensures.item.4 (omega arith) (record { index = 0 }))
    ∙ sym (key_of c.args.chain.now (record { index = 0 }) c.in-Some.ensures.item.3.0)
