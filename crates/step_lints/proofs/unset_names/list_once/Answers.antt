use Rattle.std.proofs.Common.{Bor, List, [], ap, ◌∙◌}
use Rattle.std.specs.List.{filter}
use Rattle.group_tree.specs.Names.{Name}
use Rattle.step_lints.specs.Inside.{names_of, with_fresh}
use Rattle.step_lints.specs.NamesRead.{read_before, read_behind}
use Rattle.step_lints.proofs.OnceLemmas.{both_once}
use Rattle.step_lints.proofs.unset_names.list_once.Goals as goal

pub returns : goal.returns
returns g c =
    let step = c.args.step.now in
    let before = g.N.Names.holds c.args.names.now in
    let behind = g.M.Names.holds c.args.others.now in
    let first = names_of c.add_read.new.list.items in
    both_once (filter before (read_before step)) (filter behind (read_behind step)) first (names_of c.add_read-2.new.list.items)
    (c.in_ok-add_read.ensures.list
    ∙ ap (λ (l : List (Bor Name)). with_fresh before (names_of l) (names_of c.as_slice.result.now)) c.new-list.ensures.items
    ∙ ap (λ (l : List Name). with_fresh before [] l) (ap names_of c.as_slice.ensures.value ∙ c.in_ok-before.ensures))
    (c.in_ok-add_read-2.ensures.list ∙ ap (λ (l : List Name). with_fresh behind first l) (ap names_of c.as_slice-2.ensures.value ∙ c.in_ok-behind.ensures))
