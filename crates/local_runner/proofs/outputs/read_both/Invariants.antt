use Rattle.std.specs.Process.{child_status}
use Rattle.local_runner.specs.Keeping.{nothing_kept}
use Rattle.local_runner.specs.Reads.{HasSeen, Reads, left_of}
use Rattle.local_runner.proofs.outputs.read_both.Given as goal

abbrev pub invariant-loop : goal.invariant-loop
invariant-loop g l = record {
  out : Reads (left_of g.O.Read.remaining l.fn.stdout) (left_of g.O.Read.remaining l.out.end) nothing_kept l.out.kept;
  err : Reads (left_of g.E.Read.remaining l.fn.stderr) (left_of g.E.Read.remaining l.err.end) nothing_kept l.err.kept;
  seen : HasSeen l.patience (child_status l.child);
}
