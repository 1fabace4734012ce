use Rattle.std.proofs.Common.{◌≡◌, ◌-◌, ◌≤◌, length}
use Rattle.fork_pool.specs.Inside.{HasLost}
use Rattle.fork_pool.specs.Pools.{IsSameLine}
use Rattle.fork_pool.proofs.front.Front.call_back.Given as goal

abbrev pub invariant-loop : goal.invariant-loop
invariant-loop g l =
    record {
      board : l.step.board ≡ l.initial.step.board;
      notes : HasLost l.initial.step.notes l.step.notes;
      more : length l.initial.self.tickets.taken ≤ length l.self.tickets.taken;
      back : l.step.notes.out ≡ l.initial.step.notes.out - (length l.self.tickets.taken - length l.initial.self.tickets.taken);
      forks : l.self.forks ≡ l.initial.self.forks;
      line : IsSameLine l.initial.self.tickets l.self.tickets;
    }
