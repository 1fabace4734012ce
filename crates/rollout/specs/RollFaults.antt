-- What a fault of a run of plays is to the program.
use Rattle.fork_pool.specs.declared.fault.StepFault.{StepFault}
use Rattle.fork_pool.specs.declared.fault.StepFault.TheVariants as step
use Rattle.roll_run.specs.declared.fault.Break.{Break}
use Rattle.roll_run.specs.declared.fault.Break.TheVariants as break
use Rattle.run_command.specs.declared.fault.RunTextFault.{RunTextFault}
use Rattle.run_command.specs.declared.fault.RunTextFault.TheVariants as running
use Rattle.rollout.specs.PlanFaults as planning
use Rattle.rollout.specs.declared.fault.Fault.{Fault}
use Rattle.rollout.specs.declared.fault.Fault.TheVariants.{Mixed, JournalWrite, Stopped, Write, Memory}

-- want of memory of a worker is that of the program
abbrev pub fault_of_step : StepFault → Fault
fault_of_step step.Mem = Memory
fault_of_step (step.WorkerMem at) = Memory
fault_of_step step.Mixed = Mixed

abbrev pub fault_of_break : Break → Fault
fault_of_break (break.Fault why) = fault_of_step why
fault_of_break break.Asked = Stopped
fault_of_break break.Unkept = JournalWrite

abbrev pub fault_of : RunTextFault → Fault
fault_of (running.Refused fault) = planning.fault_of fault
fault_of running.Memory = Memory
fault_of (running.Broken why) = fault_of_break why
fault_of (running.Write fault) = Write fault
