use Rattle.std.proofs.Common.{◌≡◌, ◌++◌, take}
use Rattle.step_lints.specs.Inside.{names_of}
use Rattle.lint_command.specs.Near.{play_registers}
use Rattle.lint_command.proofs.near.add_play_registers.Given as goal

abbrev pub invariant-loop-play : goal.invariant-loop-play
invariant-loop-play l = names_of l.names.items ≡ names_of l.initial.names.items ++ play_registers (take l.play-index l.plays)
