use Rattle.std.proofs.Common.{take}
use Rattle.domains.specs.Ids.{host_numbers}
use Rattle.resume_state.specs.Debts.{OweAmong}
use Rattle.resume_state.proofs.debts.owe_all.Given as goal

abbrev pub invariant-loop-host : goal.invariant-loop-host
invariant-loop-host l = OweAmong (take l.host-index (host_numbers l.owing)) l.initial.vars l.vars
