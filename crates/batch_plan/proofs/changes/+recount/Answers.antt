use Rattle.std.proofs.Common.{ℕ, ◌≡◌, true, List, map, get_or, sym, ap, ◌∙◌, subst, refl, arith, rules}
use Rattle.std.specs.List.{list_all}
use Rattle.std.proofs.lemmas.List.{length-map, with_items_is}
use Rattle.batch_plan.specs.CountPlaces.{waits, is_down}
use Rattle.batch_plan.specs.Nodes.{Node, Subtree, side_by_side, groups_in, RiseFrom}
use Rattle.batch_plan.specs.Changes.{recounted_along, counts_on}
use Rattle.batch_plan.proofs.TreeLemmas.{tops_rise, below_rise}
use Rattle.batch_plan.proofs.ChangeLemmas.{recounted_empty, recounted_nowhere, chain_split, shorter, first_of, inner_of, at_tree, tree_leaves, tree_changed, bit_small}
use Rattle.batch_plan.proofs.changes.+recount.Goals as goal

pub search-requires : goal.search-requires
search-requires g t c = tops_rise 0 c.args.trees.now c.requires.rise

pub returns-in_default : goal.returns-in_default
returns-in_default g t c =
    recounted_empty c.args.chain.now c.args.was c.args.is (side_by_side c.args.trees.now) c.in_default.len_below

pub returns-in_default-search : goal.returns-in_default-search
returns-in_default-search g t c =
    let chain = c.args.chain.now in
    let trees = c.args.trees.now in
    let long = length-map trees (λ (tree : Subtree). tree.group) in
    let split = chain_split chain c.in-len1-up.len_at_least in
    subst (λ ns. side_by_side trees ≡ map (recounted_along ns c.args.was c.args.is) (side_by_side trees)) (sym split)
    (recounted_nowhere (first_of chain) (inner_of chain) c.args.was c.args.is trees c.in_default-search.field-0 c.in_default-search.ensures long)

pub overflow_sub-tree : goal.overflow_sub-tree
overflow_sub-tree g t c =
    let leaves =
    tree_leaves c.args.chain.now c.args.was c.args.trees.now c.in-Ok.place _ c.index-trees-place.result c.in-len1-up.len_at_least c.in-Ok.ensures c.requires.counted c.tree.view_is in
    omega (arith, leaves.0.some_waiting, c.waiting.ensures)

pub overflow_add-tree : goal.overflow_add-tree
overflow_add-tree g t c =
    let leaves =
    tree_leaves c.args.chain.now c.args.was c.args.trees.now c.in-Ok.place _ c.index-trees-place.result c.in-len1-up.len_at_least c.in-Ok.ensures c.requires.counted c.tree.view_is in
    omega (arith, leaves.0.few_waiting, c.waiting-2.ensures, bit_small (waits c.args.is))

pub overflow_sub-tree-2 : goal.overflow_sub-tree-2
overflow_sub-tree-2 g t c =
    let leaves =
    tree_leaves c.args.chain.now c.args.was c.args.trees.now c.in-Ok.place _ c.index-trees-place.result c.in-len1-up.len_at_least c.in-Ok.ensures c.requires.counted c.tree.view_is in
    omega (arith, leaves.0.some_down, c.down.ensures)

pub overflow_add-tree-2 : goal.overflow_add-tree-2
overflow_add-tree-2 g t c =
    let leaves =
    tree_leaves c.args.chain.now c.args.was c.args.trees.now c.in-Ok.place _ c.index-trees-place.result c.in-len1-up.len_at_least c.in-Ok.ensures c.requires.counted c.tree.view_is in
    omega (arith, leaves.0.few_down, c.down-2.ensures, bit_small (is_down c.args.is))

pub recount-requires : goal.recount-requires
recount-requires g t c =
    let trees = c.args.trees.now in
    let leaves =
    tree_leaves c.args.chain.now c.args.was trees c.in-Ok.place _ c.index-trees-place.result c.in-len1-up.len_at_least c.in-Ok.ensures c.requires.counted c.tree.view_is in
    let here = at_tree trees (first_of c.args.chain.now) c.in-Ok.place c.index-trees-place.result c.in-Ok.ensures in
    let smaller = shorter c.args.chain.now c.in-len1-up.len_at_least in
    let inner : List ℕ = inner_of c.args.chain.now in
    let lower : List Subtree = c.as_mut_slice.result.now in
    let below : (get_or trees c.in-Ok.place c.index-trees-place.result).below ≡ side_by_side lower =
    ap (λ (t : Subtree). t.below) (sym c.tree.view_is) ∙ ap side_by_side (sym c.as_mut_slice.ensures.value) in
    let up : RiseFrom 0 (groups_in (side_by_side lower)) =
    subst (λ (nodes : List Node). RiseFrom 0 (groups_in nodes)) below (below_rise 0 trees c.in-Ok.place c.index-trees-place.result here.0 c.requires.rise) in
    let counted : list_all (counts_on inner c.args.was) (side_by_side lower) ≡ true =
    subst (λ (items : List Subtree). list_all (counts_on inner c.args.was) (side_by_side items) ≡ true) (sym c.as_mut_slice.ensures.value) leaves.1 in
    search rules

pub returns : goal.returns
returns g t c =
    let trees = c.args.trees.now in
    let kept = with_items_is c.tree.inside.children c.recount.new.trees (omega (arith, c.recount.auto.trees, c.as_mut_slice.ensures.len)) in
    let below =
    ap side_by_side kept
    ∙ c.recount.ensures
    ∙ ap (λ (items : List Subtree). map (recounted_along (inner_of c.args.chain.now) c.args.was c.args.is) (side_by_side items)) c.as_mut_slice.ensures.value in
    tree_changed c.args.chain.now c.args.was c.args.is trees c.in-Ok.place _ _ c.index-trees-place.result c.in-len1-up.len_at_least
    c.requires.rise c.in-Ok.ensures c.tree.view_is refl (omega (arith, c.waiting.ensures, c.waiting-2.ensures))
    (omega (arith, c.down.ensures, c.down-2.ensures)) below
