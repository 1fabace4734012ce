use Rattle.std.proofs.Common.{arith, length, ◌≡◌}
use Rattle.std.proofs.lemmas.List.FromFn.{fill_by_all}
use Rattle.fleet_index.specs.NumberLists.{has_number, list_at, last_where}
use Rattle.fleet_index.proofs.chains.list_subtree_ends.Goals as goal

pub returns : goal.returns
returns c =
    let done : c.loop-number.number ≡ length c.args.paths.now = omega arith in
    fill_by_all
    (λ group. last_where (λ number. has_number group (list_at c.args.paths.now number)) (length c.args.paths.now)) c.loop-number.subtree_ends.items
    (length c.args.paths.now) 0 c.loop-number.invariant.len (rw done at c.loop-number.invariant.marked)
