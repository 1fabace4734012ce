use Rattle.std.proofs.Common.{ap}
use Rattle.playbook_schema.specs.Breaches.{Spot}
use Rattle.playbook_schema.specs.Faults.{key_name, named_by}
use Rattle.playbook_schema.proofs.FaultLaws.{spot_is}
use Rattle.playbook_schema.proofs.fault_at.bad_condition.Goals as goal

pub returns : goal.returns
returns c =
    ap (λ (spot : Spot). named_by spot (key_name c.args.key) c.args.fault) (spot_is c.args.place c.told_play.result c.step.result c.told_play.ensures c.step.ensures)
