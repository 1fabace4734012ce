use Rattle.std.proofs.Common.{◌≡◌, ℕ, length, take}
use Rattle.std.specs.Prelude.{Some, slice_get}
use Rattle.host_vars.specs.declared.vars.Vars.{Vars}
use Rattle.roll_run.specs.Plays.{AreSameHosts}
use Rattle.roll_run.proofs.next.copy_all.Given as goal

abbrev pub invariant-loop-index : goal.invariant-loop-index
invariant-loop-index l = AreSameHosts l.copies.items (take l.index l.vars)
