use Rattle.std.proofs.Common.{◌≡◌, take}
use Rattle.std.specs.List.{list_any}
use Rattle.group_tree.specs.Names.{Name}
use Rattle.play_model.specs.Registers.{is_register}
use Rattle.host_track.specs.Summaries.{does_register}
use Rattle.host_track.proofs.registers.registers_of.Given as goal

abbrev pub invariant-loop-step : goal.invariant-loop-step
invariant-loop-step l =
    (name : Name) → is_register l.registers name ≡ list_any (does_register name) (take l.step-index l.step-items)
