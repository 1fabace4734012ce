-- What it is to the program that nothing is told of the rest of a run, or not all.
use Rattle.resume_preview.specs.declared.fault.OutlookFault.{OutlookFault}
use Rattle.resume_preview.specs.declared.fault.OutlookFault.TheVariants as outlook
use Rattle.resume_preview.specs.declared.fault.PreviewFault.{PreviewFault}
use Rattle.resume_preview.specs.declared.fault.PreviewFault.TheVariants as rest
use Rattle.rollout.specs.RehearsalFaults as rehearsals
use Rattle.rollout.specs.ResumeFaults as resumes
use Rattle.rollout.specs.declared.fault.Fault.{Fault}
use Rattle.rollout.specs.declared.fault.Fault.TheVariants.{Pattern, Write}

abbrev pub fault_of : OutlookFault → Fault
fault_of (outlook.Resume why) = resumes.fault_of why
fault_of (outlook.Failing fault) = Pattern fault
fault_of (outlook.Write fault) = Write fault

-- the same of a session
abbrev pub fault_of_rest : PreviewFault → Fault
fault_of_rest (rest.Resume why) = resumes.fault_of why
fault_of_rest (rest.Session fault) = rehearsals.fault_of fault
