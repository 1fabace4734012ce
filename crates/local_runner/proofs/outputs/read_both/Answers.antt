use Rattle.local_runner.proofs.KeepLemmas.{reads_on}
use Rattle.local_runner.proofs.outputs.read_both.Goals as goal

pub loop-preserved : goal.loop-preserved
loop-preserved g c = record {
  out = reads_on _ _ _ _ _ _ c.loop.invariant.out c.in_ok-read_on.ensures;
  err = reads_on _ _ _ _ _ _ c.loop.invariant.err c.in_ok-read_on-2.ensures;
  seen = c.in_ok-patience.ensures;
}
