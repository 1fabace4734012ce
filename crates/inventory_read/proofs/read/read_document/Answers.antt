use Rattle.std.proofs.Common.{◌≡◌, [], map, sym, ap, ◌∙◌, subst}
use Rattle.serde_json.specs.View.{view}
use Rattle.group_tree.specs.Places.{Inventory}
use Rattle.group_tree.specs.Subtrees as subtrees
use Rattle.inventory_read.specs.Listings.{child_of}
use Rattle.inventory_read.specs.Named.{are_named}
use Rattle.inventory_read.specs.Rules.{broken, broken_by_tree}
use Rattle.inventory_read.specs.Values as values
use Rattle.inventory_read.proofs.Groups.{groups_of-is}
use Rattle.inventory_read.proofs.Named.{unbroken-named}
use Rattle.inventory_read.proofs.Readings.{none_told}
use Rattle.inventory_read.proofs.Unbroken.{unbroken-tree, keeps-distinct, keeps-depth, keeps-groups, keeps-rows}
use Rattle.inventory_read.proofs.read.read_document.Goals as goal

pub check-requires : goal.check-requires
check-requires g c =
    let children = ap (map child_of) c.as_slice.ensures.value ∙ c.in_ok-children.ensures in
    groups_of-is (view c.args.document.now) (view c.body_of_all-all.result.now) (map child_of c.as_slice.result.now) children c.body_of_all-all.ensures

pub returns-then-not-is_empty : goal.returns-then-not-is_empty
returns-then-not-is_empty g c = (c.in_ok-told.ensures, sym c.is_empty.ensures ∙ c.if-not-is_empty.true)

pub build_all-requires : goal.build_all-requires
build_all-requires g c =
    let document = view c.args.document.now in
    let children = ap (map child_of) c.as_slice-2.ensures.value ∙ c.in_ok-children.ensures in
    let listed = groups_of-is document (view c.body_of_all-all.result.now) (map child_of c.as_slice-2.result.now) children c.body_of_all-all.ensures in
    let unbroken = none_told c.args.most (broken document) c.in_ok-told.told c.in_ok-told.ensures (sym c.is_empty.ensures ∙ c.if-not-is_empty.false) in
    ap are_named listed ∙ unbroken-named document unbroken

pub within_bounds-requires : goal.within_bounds-requires
within_bounds-requires g c =
    let document = view c.args.document.now in
    let children = ap (map child_of) c.as_slice-2.ensures.value ∙ c.in_ok-children.ensures in
    let listed = groups_of-is document (view c.body_of_all-all.result.now) (map child_of c.as_slice-2.result.now) children c.body_of_all-all.ensures in
    let unbroken = none_told c.args.most (broken document) c.in_ok-told.told c.in_ok-told.ensures (sym c.is_empty.ensures ∙ c.if-not-is_empty.false) in
    let document_says : subtrees.inventory_of c.in_ok-root.root ≡ values.inventory_of document = c.in_ok-root.ensures ∙ ap values.inventory_from listed in
    let kept = subst (λ (inventory : Inventory). broken_by_tree inventory ≡ []) (sym document_says) (unbroken-tree document unbroken) in
    let root = subtrees.inventory_of c.in_ok-root.root in
    record {
      distinct = keeps-distinct root kept;
      depth = keeps-depth root kept;
      groups = keeps-groups root kept;
      rows = keeps-rows root kept;
    }

pub returns : goal.returns
returns g c =
    let document = view c.args.document.now in
    let children = ap (map child_of) c.as_slice-2.ensures.value ∙ c.in_ok-children.ensures in
    let listed = groups_of-is document (view c.body_of_all-all.result.now) (map child_of c.as_slice-2.result.now) children c.body_of_all-all.ensures in
    let unbroken = none_told c.args.most (broken document) c.in_ok-told.told c.in_ok-told.ensures (sym c.is_empty.ensures ∙ c.if-not-is_empty.false) in
    (unbroken, c.within_bounds.ensures ∙ c.in_ok-root.ensures ∙ ap values.inventory_from listed)
