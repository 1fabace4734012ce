use Rattle.std.proofs.Common.{◌≡◌, All}
use Rattle.std.specs.Vec.Iter.{into_iter_items, into_iter_len}
use Rattle.pool_tests.proofs.gathered.gather_all.Given as goal

abbrev pub invariant-loop-worker : goal.invariant-loop-worker
invariant-loop-worker g l = (l.front.takers ≡ into_iter_len l.worker-iterator)
    × All (λ worker. worker.promise.given.value.line ≡ l.front.line) (into_iter_items l.worker-iterator)
