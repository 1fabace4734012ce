use Rattle.rehearse.proofs.StandingLemmas.{IsInNoneBefore}
use Rattle.rehearse.proofs.batch.first_with.Given as goal

abbrev pub invariant-loop-place : goal.invariant-loop-place
invariant-loop-place l = IsInNoneBefore l.host.index l.batches l.place
