use Rattle.std.proofs.Common.{◌≡◌, drop}
use denote.Text.{Utf8}
use denote.Shadow.{shadow}
use Rattle.fleet_index.specs.NumberLists.{list_at}
use Rattle.step_lints.specs.Programs.{program_from}
use Rattle.step_lints.specs.declared.programs.Front.TheVariants.{Any}
use Rattle.step_lints.proofs.programs.find_program.Given as goal

abbrev pub invariant-loop-place : goal.invariant-loop-place
invariant-loop-place l =
    shadow (Utf8 l.wrapper) × (program_from l.front l.wrapper (drop l.place l.words) ≡ program_from Any (list_at l.words 0) l.words)
