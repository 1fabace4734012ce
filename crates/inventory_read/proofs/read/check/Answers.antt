use Rattle.std.proofs.Common.{◌≡◌, List, map, sym, ap, ◌∙◌}
use Rattle.std.specs.List.{flat_map}
use Rattle.serde_json.specs.View.{view}
use Rattle.inventory_read.specs.Documents.{Listed, groups_of}
use Rattle.inventory_read.specs.Listings.{listing_of, outline_of}
use Rattle.inventory_read.specs.Rules.{Breach, bad_top, broken, broken_in}
use Rattle.text_syntax.specs.Telling.{Telling, nothing_told, with_breaches}
use Rattle.inventory_read.proofs.Readings.{are_told}
use Rattle.text_syntax.proofs.Tellings.{after, with_none}
use Rattle.inventory_read.proofs.read.check.Goals as goal

pub returns : goal.returns
returns c =
    let document = view c.args.document.now in
    let top : c.check_top.new.faults ≡ with_breaches (nothing_told c.args.most) (bad_top document) =
    c.in_ok-check_top.ensures ∙ ap (λ (t : Telling Breach). with_breaches t (bad_top document)) c.new-faults.ensures in
    let groups : c.check_groups.new.faults ≡ with_breaches c.check_top.new.faults (flat_map broken_in (groups_of document)) =
    c.in_ok-groups.ensures.found ∙ ap (λ (groups : List Listed). with_breaches c.check_top.new.faults (flat_map broken_in groups)) c.requires in
    let listed : map outline_of c.as_slice.result.now ≡ listing_of (groups_of document) =
    ap (map outline_of) c.as_slice.ensures.value ∙ c.in_ok-groups.ensures.listed ∙ ap listing_of c.requires in
    let tree = c.in_ok-check_tree.ensures (groups_of document) listed in
    let all : c.check_tree.new.faults ≡ with_breaches (nothing_told c.args.most) (broken document) =
    after _ _ _ _ _ top (after _ _ _ _ _ groups (after _ _ _ _ _ tree (sym (with_none _)))) in
    are_told c.args.most (broken document) c.check_tree.new.faults c.into_told.result all c.into_told.ensures.faults c.into_told.ensures.more
