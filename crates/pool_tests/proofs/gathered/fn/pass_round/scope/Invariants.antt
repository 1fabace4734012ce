use Rattle.std.proofs.Common.{◌≡◌, ◌+◌, All, vec_len}
use Rattle.std.specs.Vec.Iter.{into_iter_items, into_iter_len}
use Rattle.ticket_channel.specs.Ends.{line_of}
use Rattle.pool_tests.proofs.gathered.fn.pass_round.scope.Given as goal

abbrev pub invariant-loop-end : goal.invariant-loop-end
invariant-loop-end g l =
    let line = line_of l.front-inside.pass in
    (vec_len l.started + into_iter_len l.end-iterator ≡ l.front-inside.takers)
    × All (λ worker. worker.promise.given.value.line ≡ line) l.started.items
    × All (λ end. end.line ≡ line) (into_iter_items l.end-iterator)
