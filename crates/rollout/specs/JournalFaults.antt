-- What a fault of a journal is to the program.
use Rattle.journal.specs.declared.fault.JournalFault.{JournalFault}
use Rattle.journal.specs.declared.fault.JournalFault.TheVariants as journal
use Rattle.rollout.specs.declared.fault.Fault.{Fault}
use Rattle.rollout.specs.declared.fault.Fault.TheVariants.{BadJournal, Memory}

abbrev pub fault_of : JournalFault → Fault
fault_of (journal.Bad line) = BadJournal line
fault_of journal.Memory = Memory
