use Rattle.std.proofs.Common.{ℕ, ◌∙◌, ap, sym, refl}
use Rattle.std.proofs.lemmas.List.Elements.{All-push, All-same}
use Rattle.group_tree.specs.Subtrees.{Subtree}
use Rattle.domains.specs.Walked.{walked_group, walked_groups}
use Rattle.host_vars.proofs.OrderLemmas.{Key, HasDepth, HasName, numbers_more, walked_there}
use Rattle.host_vars.proofs.order.list_keys.Goals as goal

pub loop-number-preserved : goal.loop-number-preserved
loop-number-preserved g c =
    let walked = c.index-groups-number.result in
    let there = walked_there walked_group c.args.groups.now c.loop-number.number walked c.loop-number-test.true c.index-groups-number.is in
    let walk = walked_groups c.args.groups.now in
    let keys = c.loop-number.keys.items in
    let key : Key = (walked.depth, c.name.result, c.loop-number.number) in
    record {
      numbers = numbers_more keys c.push.new.self.items key c.loop-number.number c.loop-number.invariant.numbers c.in_ok-push.ensures.items refl;
      depths = All-same (HasDepth walk) _ _ c.in_ok-push.ensures.items
          (All-push (HasDepth walk) keys key c.loop-number.invariant.depths (sym (ap (λ (w : Subtree × ℕ). w.1) there)));
      names = All-same (HasName walk) _ _ c.in_ok-push.ensures.items
          (All-push (HasName walk) keys key c.loop-number.invariant.names (c.name.ensures ∙ sym (ap (λ (w : Subtree × ℕ). w.0.name) there)));
    }
