use Rattle.rollout.proofs.FaultLemmas.{loses_in, prints_in}
use Rattle.rollout.proofs.commands.faults.report_faults.Goals as goal

pub returns-in-Ok-clause-ok : goal.returns-in-Ok-clause-ok
returns-in-Ok-clause-ok g c = prints_in c.args.inventory.now _ c.args.found.now c.requires _ _ c.send_faults.result c.send_faults.ensures.ok

pub returns-in-Ok-clause-err : goal.returns-in-Ok-clause-err
returns-in-Ok-clause-err g c = loses_in c.args.inventory.now _ c.args.found.now c.requires _ _ c.send_faults.result c.send_faults.ensures.err
