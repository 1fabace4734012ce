use Rattle.std.proofs.Common.{◌≡◌, replicate}
use Rattle.event_log.specs.declared.turn.Turn.TheVariants.{Over}
use Rattle.event_log.proofs.work.starting.nobody_due.Given as goal

abbrev pub invariant-loop-host : goal.invariant-loop-host
invariant-loop-host l = l.turns.items ≡ replicate l._host Over
