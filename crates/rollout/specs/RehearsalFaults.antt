-- What a fault of a rehearsal is to the program.
use Rattle.bounded_io.specs.declared.input_fault.InputFault.{InputFault}
use Rattle.bounded_io.specs.declared.input_fault.InputFault.TheVariants as input
use Rattle.command_line.specs.declared.command.Source.TheVariants.{StandardInput}
use Rattle.rehearse.specs.declared.fault.RehearseFault.{RehearseFault}
use Rattle.rehearse.specs.declared.fault.RehearseFault.TheVariants as rehearsing
use Rattle.rollout.specs.PlanFaults as planning
use Rattle.rollout.specs.declared.fault.Fault.{Fault}
use Rattle.rollout.specs.declared.fault.Fault.TheVariants.{Input, LongLine, Write, Memory}

-- the commands come on standard input
abbrev pub input_of_commands : InputFault → Fault
input_of_commands fault = Input StandardInput fault

abbrev pub fault_of : RehearseFault → Fault
fault_of (rehearsing.Refused fault) = planning.fault_of fault
fault_of rehearsing.Memory = Memory
fault_of rehearsing.File = input_of_commands input.File
fault_of rehearsing.TooLarge = input_of_commands input.TooLarge
fault_of rehearsing.LongLine = LongLine
fault_of (rehearsing.Write fault) = Write fault
