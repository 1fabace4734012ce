use Rattle.std.proofs.Common.{◌≡◌, List, ℕ, None, false, map, string_bytes, take}
use Rattle.std.specs.Process.{clears_env, command_args, command_dir, command_program, command_var}
use Rattle.local_runner.proofs.command.command_of.Given as goal

abbrev pub invariant-loop-argument : goal.invariant-loop-argument
invariant-loop-argument l = record {
  program : command_program l.command ≡ command_program l.initial.command;
  arguments : command_args l.command ≡ map string_bytes (take l.argument-index l.arguments);
  folder : command_dir l.command ≡ None;
  inherits : clears_env l.command ≡ false;
  vars : (name : List ℕ) → command_var l.command name ≡ None;
}
