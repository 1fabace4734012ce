use Rattle.std.proofs.Common.{IfErr, IfOk}
use Rattle.local_runner.specs.Starts.{IsUnstarted}
use Rattle.local_runner.proofs.starting.start.Given as goal

abbrev pub invariant-loop : goal.invariant-loop
invariant-loop g l = record {
  can_next : (goal.iterator-loop g).can_next l.iterator';
  is_finite : (goal.iterator-loop g).is_finite l.iterator';
  started : IfOk l.tried (λ _. g.L.Launch.is_started l.fn.job.words);
  pending : IfOk l.tried (λ started. g.L.Launch.is_pending started.1 l.fn.job.words);
  refused : IfErr l.tried (λ _. IsUnstarted g.L.Launch.is_refused l.fn.job.words);
}
