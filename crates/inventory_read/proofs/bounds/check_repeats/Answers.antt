use Rattle.std.proofs.Common.{◌≡◌, ◌+◌, ◌<◌, Bool, not, List, [], map, get_or, length, sym, ap, ◌∙◌, rules}
use Rattle.std.proofs.lemmas.List.{get_or-map, length-map}
use Rattle.group_tree.specs.Names.{Name}
use Rattle.inventory_read.specs.Listings.{name_of}
use Rattle.inventory_read.specs.Rules.{TwicePlaced, repeated_at, stood_before}
use Rattle.text_syntax.specs.Telling.{with_breaches}
use Rattle.inventory_read.proofs.Repeats.{has-more, is_added, repeats_more, repeats_to}
use Rattle.text_syntax.proofs.Tellings.{after, with_none}
use Rattle.inventory_read.proofs.Walks.{at_top}
use Rattle.inventory_read.proofs.bounds.check_repeats.Goals as goal

pub loop-index-init : goal.loop-index-init
loop-index-init c = record { kept = search rules; found = sym (with_none c.args.faults.now) }

pub loop-index-preserved : goal.loop-index-preserved
loop-index-preserved c =
    let l = c.loop-index in
    let groups = c.args.groups.now in
    let names : List Name = map name_of groups in
    let item = get_or groups l.index c.index-groups-index.result in
    let is = sym (get_or-map name_of groups l.index c.index-groups-index.result [] c.loop-index-test.true) in
    let within : l.index < length names = simp length-map c.loop-index-test.true in
    let added : Bool = c.in_ok-is_new.is_new in
    let kept : added ≡ not (stood_before names l.index) =
    is_added l.names.keys item.name names l.index added is l.invariant.kept c.in_ok-is_new.ensures.added in
    let found : c.check.new.self ≡ with_breaches l.faults (repeated_at names l.index) =
    c.in_ok-check.ensures ∙ ap (with_breaches l.faults) (at_top added (not (stood_before names l.index)) (TwicePlaced (l.index + 1)) kept) in
    record {
      kept = λ name. has-more name l.names.keys c.insert.new.self.keys item.name names l.index within is c.in_ok-is_new.ensures.keys (l.invariant.kept name);
      found = after _ _ _ (repeats_to names l.index) (repeated_at names l.index) l.invariant.found found ∙ ap (with_breaches c.args.faults.now) (sym (repeats_more names l.index));
    }
