use Rattle.std.proofs.Common.{◌≡◌, drop}
use Rattle.step_lints.specs.Programs.{base_from}
use Rattle.step_lints.proofs.programs.base_name.Given as goal

abbrev pub invariant-loop-place : goal.invariant-loop-place
invariant-loop-place l = base_from l.base (drop l.place l.bytes) ≡ base_from l.bytes l.bytes
