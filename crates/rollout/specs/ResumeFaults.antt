-- What it is to the program that a run doesn't go on.
use Rattle.resume_state.specs.declared.fault.ResumeFault.{ResumeFault}
use Rattle.resume_state.specs.declared.fault.ResumeFault.TheVariants as resuming
use Rattle.rollout.specs.RollFaults as rolls
use Rattle.rollout.specs.JournalFaults as journals
use Rattle.rollout.specs.declared.fault.Fault.{Fault}
use Rattle.rollout.specs.declared.fault.Fault.TheVariants.{Fleet, Memory, NeedsResult, OtherInputs, Pattern}

abbrev pub fault_of : ResumeFault → Fault
fault_of (resuming.Texts fault) = rolls.fault_of fault
fault_of (resuming.Journal fault) = journals.fault_of fault
fault_of resuming.OtherInputs = OtherInputs
fault_of (resuming.Mended fault) = Pattern fault
fault_of (resuming.Over fault) = Fleet fault
fault_of (resuming.NeedsResult name) = NeedsResult name
fault_of resuming.Memory = Memory
