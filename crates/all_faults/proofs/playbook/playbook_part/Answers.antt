use Rattle.std.proofs.Common.{[], inr, refl}
use Rattle.play_read.specs.Reads.{IsReadAs}
use Rattle.playbook_schema.specs.Plays.{checks}
use Rattle.playbook_schema.proofs.CheckLaws.{silent_where_kept}
use Rattle.all_faults.proofs.Parts.{read_told}
use Rattle.all_faults.proofs.playbook.playbook_part.Goals as goal

pub returns-in-Ok-Ok-clause-told : goal.returns-in-Ok-Ok-clause-told
returns-in-Ok-Ok-clause-told c =
    rw c.in-Some.is
    (read_told c.in-Some.text.now c.args.most c.in-Ok-Ok.plays.items c.no_playbook_faults-in-Ok-Ok.result (rw c.in-Ok-Ok.field-0-is at c.in-Ok-Ok.ensures) c.no_playbook_faults-in-Ok-Ok.ensures)
