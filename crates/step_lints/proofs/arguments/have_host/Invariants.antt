use Rattle.std.proofs.Common.{◌≡◌, drop}
use Rattle.step_lints.specs.Arguments.{have_host}
use Rattle.step_lints.proofs.arguments.have_host.Given as goal

abbrev pub invariant-loop-place : goal.invariant-loop-place
invariant-loop-place l = have_host (drop l.place l.words) ≡ have_host (drop 1 l.words)
