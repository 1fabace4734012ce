-- When a rehearsal does not advance.
use Rattle.std.specs.Prelude.{◌≡◌, None, Some, List}
use Rattle.group_tree.specs.declared.ids.HostId.{HostId}
use Rattle.play_forecast.specs.Courses.{next_batch}
use Rattle.rehearse.specs.declared.advance_fault.AdvanceFault.{AdvanceFault}
use Rattle.rehearse.specs.declared.advance_fault.AdvanceFault.TheVariants.{Over, NotInBatch, Memory}
use Rattle.rehearse.specs.Stacks.{RehearsalView, first_outside, top}

-- the play has ended; or it goes on, and the first of the named hosts that does not stand in the batch is told
abbrev pub IsRefused : RehearsalView → List HostId → AdvanceFault → Type 0
IsRefused rehearsal named (Over end) = (top rehearsal).end ≡ Some end
IsRefused rehearsal named (NotInBatch host) =
    ((top rehearsal).end ≡ None) × (first_outside (next_batch (top rehearsal).boundary.answer) named ≡ Some host)
IsRefused rehearsal named Memory = Unit {0}
