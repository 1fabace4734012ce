use Rattle.std.proofs.Common.{◌≡◌}
use Rattle.fork_pool.specs.Pools.{IsSameLine}
use Rattle.fork_pool.specs.Steps.{Continues}
use Rattle.fork_pool.proofs.front.Front.resume.Given as goal

abbrev pub invariant-loop : goal.invariant-loop
invariant-loop g l =
    record {
      board : Continues l.initial.step.board l.step.board;
      forks : l.self.forks ≡ l.initial.self.forks;
      line : IsSameLine l.initial.self.tickets l.self.tickets;
    }
