use Rattle.std.proofs.Common.{ℕ, ◌≡◌, ◌+◌, ◌-◌, ◌≤◌, ◌<◌, List, [], ◌∷◌, ◌++◌, take, length, get_or, vec_len, sym, ap, ◌∙◌, arith, rules}
use Rattle.batch_plan.specs.Nodes.{Node, Subtree, own_node, side_by_side}
use Rattle.batch_plan.specs.Shapes.{last_path}
use Rattle.batch_plan.proofs.ShapeLemmas.{last_path-last, appended, on_ok}
use Rattle.batch_plan.proofs.shape.+append.Goals as goal

pub append-requires : goal.append-requires
append-requires g t c =
    let trees = c.args.trees.now.items in
    let last = vec_len c.args.trees.now - 1 in
    let some : 0 < vec_len c.args.trees.now = c.in-Some.ensures.variant.0 (search rules) in
    let end : last + 1 ≡ length trees = omega (arith, c.args.trees.now.ok.0) in
    let path = last_path-last trees last c.in-Some.last.now end in
    let tree : (get_or trees last c.in-Some.last.now).below ≡ side_by_side c.last.inside.children.items =
    ap (λ (t : Subtree). t.below) (sym (c.last.view_is ∙ c.in-Some.ensures.value)) in
    let long : length (last_path (side_by_side trees)) ≡ length (last_path (side_by_side c.last.inside.children.items)) + 1 =
    ap length path ∙ (let n = ap (λ (nodes : List Node). length (last_path nodes)) tree in omega (arith, n)) in
    let deep : c.args.depth - 1 ≤ length (last_path (side_by_side c.last.inside.children.items)) = omega (arith, long, c.requires.deep, c.if-depth-eq0.false) in
    let leaf = c.requires.leaf in
    search rules

pub returns-in-Some : goal.returns-in-Some
returns-in-Some g t c =
    let trees = c.args.trees.now.items in
    let last = vec_len c.args.trees.now - 1 in
    let some : 0 < vec_len c.args.trees.now = c.in-Some.ensures.variant.0 (search rules) in
    let end : last + 1 ≡ length trees = omega (arith, c.args.trees.now.ok.0) in
    let deeper : c.args.depth ≡ (c.args.depth - 1) + 1 = omega (arith, c.if-depth-eq0.false) in
    let less : ℕ = c.args.depth - 1 in
    let group = ap (λ (t : Subtree). t.group) c.last.view_is in
    let waiting = ap (λ (t : Subtree). t.waiting) c.last.view_is in
    let down = ap (λ (t : Subtree). t.down) c.last.view_is in
    let below = ap (λ (t : Subtree). t.below) c.last.view_is in
    let longer : List Node → List Node = λ nodes. nodes ++ record (own_node c.args.tree) { above = take less (last_path nodes) } ∷ [] in
    on_ok c.append.result
    (λ grown. appended trees last c.args.depth less _ _ c.args.tree end deeper c.in-Some.ensures.value group waiting down (grown ∙ ap longer below))
    c.append.ensures
