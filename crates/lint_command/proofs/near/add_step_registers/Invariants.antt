use Rattle.std.proofs.Common.{◌≡◌, ◌++◌, take}
use Rattle.step_lints.specs.Inside.{names_of}
use Rattle.lint_command.specs.Near.{step_registers}
use Rattle.lint_command.proofs.near.add_step_registers.Given as goal

abbrev pub invariant-loop-step : goal.invariant-loop-step
invariant-loop-step l = names_of l.names.items ≡ names_of l.initial.names.items ++ step_registers (take l.step-index l.steps)
