use Rattle.std.proofs.Common.{take}
use Rattle.step_lints.specs.Inside.{AreMissed, missed_from}
use Rattle.step_lints.proofs.undefined_reads.UndefinedReads.of.Given as goal

abbrev pub invariant-loop-host : goal.invariant-loop-host
invariant-loop-host l = AreMissed (missed_from l.stand l.crowd.lacks.now.vars.now) (take l.host-index l.crowd.lacks.now.waiting.now) l.sets.items
