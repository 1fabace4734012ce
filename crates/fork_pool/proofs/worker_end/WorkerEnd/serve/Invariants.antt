use Rattle.std.proofs.Common.{◌≡◌, ◌≤◌, length}
use Rattle.fork_pool.proofs.worker_end.WorkerEnd.serve.Given as goal

abbrev pub invariant-loop : goal.invariant-loop
invariant-loop g l =
    record {
      more : length l.initial.self.taker.tickets.taken ≤ length l.self.taker.tickets.taken;
      place : l.self.taker.place ≡ l.initial.self.taker.place;
      line : l.self.taker.tickets.line ≡ l.initial.self.taker.tickets.line;
    }
