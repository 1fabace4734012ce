-- What a fault of planning is to the program.
use Rattle.plan_command.specs.declared.fault.PlanFault.{PlanFault}
use Rattle.plan_command.specs.declared.fault.PlanFault.TheVariants as planning
use Rattle.expectations.specs.declared.unexpected.ExpectFault.{ExpectFault}
use Rattle.expectations.specs.declared.unexpected.ExpectFault.TheVariants as expecting
use Rattle.plan_check.specs.declared.fault.CheckFault.{CheckFault}
use Rattle.plan_check.specs.declared.fault.CheckFault.TheVariants as checking
use Rattle.rollout.specs.declared.fault.Fault.{Fault}
use Rattle.rollout.specs.declared.fault.Fault.TheVariants.{Read, Fleet, Playbook, Pattern, BadPlan, Unexpected, Write, Memory}

abbrev pub fault_of : PlanFault → Fault
fault_of (planning.Read fault) = Read fault
fault_of (planning.Fleet fault) = Fleet fault
fault_of (planning.Playbook fault) = Playbook fault
fault_of (planning.Pattern fault) = Pattern fault
fault_of (planning.Write fault) = Write fault

abbrev pub fault_of_check : CheckFault → Fault
fault_of_check (checking.Plan fault) = fault_of fault
fault_of_check (checking.BadPlan line) = BadPlan line

abbrev pub fault_of_expecting : ExpectFault → Fault
fault_of_expecting (expecting.Plan fault) = fault_of fault
fault_of_expecting (expecting.Unexpected found) = Unexpected found
fault_of_expecting expecting.Memory = Memory
