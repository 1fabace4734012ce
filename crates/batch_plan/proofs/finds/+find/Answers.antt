use Rattle.std.proofs.Common.{◌≡◌, ◌-◌, ◌<◌, false, List, length, get_or, sym, ap, ◌∙◌, subst, arith, rules}
use Rattle.std.proofs.lemmas.List.{length-map}
use Rattle.fleet_index.specs.NumberLists.{has_number}
use Rattle.batch_plan.specs.Nodes.{Node, Subtree, side_by_side, groups_in, RiseFrom}
use Rattle.batch_plan.specs.Finds.{IsCountedIn, IsGap, tops_of}
use Rattle.batch_plan.proofs.TreeLemmas.{tops_rise, below_rise, nodes_below_less}
use Rattle.batch_plan.proofs.FindLemmas.{found_here, none_before, found_below, gap_has, matched}
use Rattle.batch_plan.proofs.finds.+find.Goals as goal

pub search-requires : goal.search-requires
search-requires g t c = tops_rise 0 c.args.trees.now c.requires

pub returns-in-Ok : goal.returns-in-Ok
returns-in-Ok g t c =
    found_here c.args.trees.now c.in-Ok.place c.args.group.index c.index-trees-place.result c.in-Ok.ensures c.index-trees-place.is

pub returns-in-Err-eq0 : goal.returns-in-Err-eq0
returns-in-Err-eq0 g t c =
    none_before c.args.trees.now c.args.group.index c.requires (subst (IsGap (tops_of c.args.trees.now) c.args.group.index) c.in-Err-eq0.field-0-test c.in-Err-eq0.ensures)

pub find-requires : goal.find-requires
find-requires g t c =
    let trees = c.args.trees.now in
    let tree = c.index-trees-after.result in
    let gap : IsGap (tops_of c.args.trees.now) c.args.group.index c.in-Err.after = c.in-Err.ensures in
    let some : c.in-Err.after ≡ 0 → ⊥ = c.in-Err.after-test.1 in
    let inside : c.in-Err.after - 1 < length trees = omega (arith, gap.within, length-map trees (λ (t : Subtree). t.group)) in
    let less : length tree.below < length (side_by_side trees) =
    subst (λ (t : Subtree). length t.below < length (side_by_side trees)) (sym c.index-trees-after.is) (nodes_below_less trees (c.in-Err.after - 1) tree inside) in
    let smaller : length (side_by_side c.children.result.now) < length (side_by_side trees) = omega (arith, less, ap length c.children.ensures) in
    let up : RiseFrom 0 (groups_in (side_by_side c.children.result.now)) =
    subst (λ (nodes : List Node). RiseFrom 0 (groups_in nodes)) (sym c.children.ensures)
    (subst (λ (t : Subtree). RiseFrom 0 (groups_in t.below)) (sym c.index-trees-after.is) (below_rise 0 trees (c.in-Err.after - 1) tree inside c.requires)) in
    search rules

pub returns-in-Err : goal.returns-in-Err
returns-in-Err g t c =
    let trees = c.args.trees.now in
    let group = c.args.group.index in
    let place = c.in-Err.after - 1 in
    let tree = c.index-trees-after.result in
    let gap : IsGap (tops_of c.args.trees.now) c.args.group.index c.in-Err.after = c.in-Err.ensures in
    let some : c.in-Err.after ≡ 0 → ⊥ = c.in-Err.after-test.1 in
    let tops = length-map trees (λ (t : Subtree). t.group) in
    let inside : place < length trees = omega (arith, gap.within, tops) in
    let below : side_by_side c.children.result.now ≡ (get_or trees place tree).below = c.children.ensures ∙ ap (λ (t : Subtree). t.below) c.index-trees-after.is in
    let before = gap.less_before place (omega arith) in
    let lower = side_by_side c.children.result.now in
    let nowhere : has_number group (groups_in lower) ≡ false → has_number group (groups_in (side_by_side trees)) ≡ false =
    λ none. gap_has 0 trees place group tree c.requires inside before (λ later l in_range. gap.greater_after later (omega arith) (omega (arith, tops)))
    (subst (λ (nodes : List Node). has_number group (groups_in nodes) ≡ false) below none) in
    matched c.find.result nowhere
    (λ found here. found_below trees place group tree found.now inside (subst (λ (nodes : List Node). IsCountedIn nodes group found.now) below here))
    c.find.ensures
