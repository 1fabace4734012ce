use Rattle.std.proofs.Common.{rules}
use Rattle.std.proofs.lemmas.List.Sorted.{answers_always}
use Rattle.batch_plan.specs.Nodes.{Subtree}
use Rattle.batch_plan.proofs.FindLemmas.{searched}
use Rattle.batch_plan.proofs.finds.search.Goals as goal

pub returns : goal.returns
returns g c =
    let facts = c.binary_search_by_key.ensures in
    let by_key = facts.position (λ (tree : Subtree). tree.group) (answers_always _ _ _ (λ f a r h called. search rules)) in
    searched c.args.trees.now c.requires c.args.group.index c.binary_search_by_key.result facts.bound by_key
