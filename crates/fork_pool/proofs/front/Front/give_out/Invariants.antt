use Rattle.std.proofs.Common.{◌≡◌, ◌+◌, length}
use Rattle.fork_pool.specs.Pools.{IsSameLine}
use Rattle.fork_pool.specs.Steps.{Continues}
use Rattle.fork_pool.proofs.front.Front.give_out.Given as goal

abbrev pub invariant-loop : goal.invariant-loop
invariant-loop g l =
    record {
      board : Continues l.initial.step.board l.step.board;
      put : length l.self.tickets.put + l.initial.step.notes.out ≡ length l.initial.self.tickets.put + l.step.notes.out;
      forks : l.self.forks ≡ l.initial.self.forks;
      line : IsSameLine l.initial.self.tickets l.self.tickets;
    }
