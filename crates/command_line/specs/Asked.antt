-- What a line of words asks for.
use Rattle.std.specs.Prelude.{ℕ, if◌then◌else◌, List, [], ◌∷◌, Option, Some, None, option_and_then, option_map, codes, string_bytes}
use Rattle.std.specs.Option.{option_or}
use Rattle.std.specs.Str.{bytes_eq}
use Rattle.command_line.specs.Operands.{Word, lone_operand, three_operands, two_operands}
use Rattle.command_line.specs.Runs.{run_of, without_option}
use Rattle.command_line.specs.declared.parsed_command.ParsedCommand as declared
use Rattle.command_line.specs.declared.parsed_command.ParsedCommand.TheVariants as by
use Rattle.command_line.specs.declared.command.Line.{Line}
use Rattle.command_line.specs.declared.command.Line.TheVariants.{Limits, Plan, Run, Rehearse, State, Check, Lint, Explain, Print}
use Rattle.command_line.specs.declared.command.Source.{Source}
use Rattle.command_line.specs.declared.command.Source.TheVariants.{StandardInput, File}

-- a command with the names of its files; a run with its forks too, and what is explained is a word as it is written, a number or the name of a kind
pub data ParsedCommand : Type 0 where
  limits : Word → ParsedCommand
  plan : Word × Word → ParsedCommand
  run : Word × Word × ℕ → ParsedCommand
  rehearse : Word × Word → ParsedCommand
  state : Word × Word → ParsedCommand
  check : Word × Word × Word → ParsedCommand
  lint : Word → Option Word → ParsedCommand
  explain : Word → ParsedCommand

-- an inventory alone, or with a playbook
abbrev pub lint_of : List Word → Option ParsedCommand
lint_of words =
    option_or (option_map (λ inventory. lint inventory None) (lone_operand words)) (option_map (λ files. lint files.0 (Some files.1)) (two_operands words))

-- what a command of this name asks for with these words behind it
abbrev pub asked_of : Word → List Word → Option ParsedCommand
asked_of command words =
    if bytes_eq command (codes "limits") then option_map limits (lone_operand words)
    else (if bytes_eq command (codes "plan") then option_map plan (two_operands words)
    else (if bytes_eq command (codes "run") then option_map run (run_of (without_option words))
    else (if bytes_eq command (codes "rehearse") then option_map rehearse (two_operands words)
    else (if bytes_eq command (codes "state") then option_map state (two_operands words)
    else (if bytes_eq command (codes "check") then option_map check (three_operands words)
    else (if bytes_eq command (codes "lint") then lint_of words
    else (if bytes_eq command (codes "explain") then option_map explain (lone_operand words) else None)))))))

-- what the words ask for, the program's own name left out
abbrev pub asked_by : List Word → Option ParsedCommand
asked_by [] = None
asked_by (command ∷ words) = asked_of command words

-- the same as the program has it
abbrev pub asked_as : declared.ParsedCommand → ParsedCommand
asked_as (by.Limits inventory) = limits inventory.now
asked_as (by.Plan inventory playbook) = plan (inventory.now, playbook.now)
asked_as (by.Run inventory playbook forks) = run (inventory.now, playbook.now, forks)
asked_as (by.Rehearse inventory playbook) = rehearse (inventory.now, playbook.now)
asked_as (by.State inventory journal) = state (inventory.now, journal.now)
asked_as (by.Check inventory playbook text) = check (inventory.now, playbook.now, text.now)
asked_as (by.Lint inventory) = lint inventory.now None
asked_as (by.LintBoth inventory playbook) = lint inventory.now (Some playbook.now)
asked_as (by.Explain word) = explain word.now

-- the name of a source that is a file
abbrev pub file_name : Source → Option Word
file_name StandardInput = None
file_name (File name) = Some (string_bytes name)

abbrev pub both_names : Source → Source → Option (Word × Word)
both_names first second = option_and_then (λ name. option_map (λ other. (name, other)) (file_name second)) (file_name first)

abbrev pub three_names : Source → Source → Source → Option (Word × Word × Word)
three_names first second third =
    option_and_then (λ names. option_map (λ other. (names.0, names.1, other)) (file_name third)) (both_names first second)

-- the line of `lint` has a playbook, or none
abbrev pub lint_asks : Word → Option Source → Option ParsedCommand
lint_asks inventory None = Some (lint inventory None)
lint_asks inventory (Some playbook) = option_map (λ name. lint inventory (Some name)) (file_name playbook)

-- what a line asks for, by the names of its files
abbrev pub line_asks : Line → Option ParsedCommand
line_asks (Limits inventory) = option_map limits (file_name inventory)
line_asks (Plan inventory playbook) = option_map plan (both_names inventory playbook)
line_asks (Run inventory playbook forks) = option_map (λ names. run (names.0, names.1, forks)) (both_names inventory playbook)
line_asks (Rehearse inventory playbook) = option_map rehearse (both_names inventory playbook)
line_asks (State inventory journal) = option_map state (both_names inventory journal)
line_asks (Check inventory playbook text) = option_map check (three_names inventory playbook text)
line_asks (Lint inventory playbook) = option_and_then (λ name. lint_asks name playbook) (file_name inventory)
line_asks (Explain word) = Some (explain (string_bytes word))
line_asks (Print message) = None
