use Rattle.std.proofs.Common.{◌≡◌, take}
use Rattle.std.specs.Prelude.{count_by}
use Rattle.step_lints.specs.Hosts.{misses}
use Rattle.step_lints.specs.Inside.{missed_from}
use Rattle.step_lints.proofs.undefined_reads.UndefinedReads.count_missing.Given as goal

abbrev pub invariant-loop-place : goal.invariant-loop-place
invariant-loop-place l =
    l.count ≡ count_by (misses (missed_from l.self.stand l.self.crowd.lacks.now.vars.now) l.name) (take l.place l.self.crowd.lacks.now.waiting.now)
