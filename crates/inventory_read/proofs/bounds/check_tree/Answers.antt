use Rattle.std.proofs.Common.{◌≡◌, List, map, sym, ap, ◌∙◌}
use Rattle.std.proofs.lemmas.Result.{on_ok_weaker}
use Rattle.group_tree.specs.Names.{Name}
use Rattle.group_tree.specs.Bounds.{group_names, are_within_depth, depth_bound}
use Rattle.text_syntax.specs.Breaches.{unless}
use Rattle.inventory_read.specs.Rules.{TooDeep, TooMany, repeats}
use Rattle.text_syntax.specs.Telling.{with_breaches}
use Rattle.inventory_read.specs.Values.{place_of}
use Rattle.inventory_read.proofs.Counts.{few, names-are, depths-are, few-are}
use Rattle.text_syntax.proofs.Tellings.{after, with_none}
use Rattle.inventory_read.proofs.Walks.{at_top}
use Rattle.inventory_read.proofs.bounds.check_tree.Goals as goal

pub returns : goal.returns
returns c = λ listed e.
    let groups = c.args.groups.now in
    let names : List Name = group_names (map place_of listed) in
    let shallow = are_within_depth depth_bound (map place_of listed) in
    let first : c.check_repeats.new.faults ≡ with_breaches c.args.faults.now (repeats names) =
    c.in_ok-check_repeats.ensures ∙ ap (λ (list : List Name). with_breaches c.args.faults.now (repeats list)) (names-are groups listed e) in
    let second : c.check.new.self ≡ with_breaches c.check_repeats.new.faults (unless shallow TooDeep) =
    c.in_ok-check.ensures
    ∙ ap (with_breaches c.check_repeats.new.faults) (at_top c.are_within_depth.result shallow TooDeep (c.are_within_depth.ensures ∙ depths-are groups listed e)) in
    on_ok_weaker c.check-2.result
    (λ third.
    after _ _ _ _ _ first
    (after _ _ _ _ _ second
    (after _ _ _ _ _ (third ∙ ap (with_breaches c.check.new.self) (at_top c.are_few.result (few listed) TooMany (c.are_few.ensures ∙ few-are groups listed e)))
    (sym (with_none _)))))
    c.check-2.ensures
