use Rattle.std.proofs.Common.{Some, ap}
use Rattle.playbook_schema.specs.Breaches.{BadBraces, Spot}
use Rattle.playbook_schema.specs.Checks.{rule}
use Rattle.playbook_schema.proofs.FaultLaws.{spot_is}
use Rattle.playbook_schema.proofs.fault_at.bad_braces.Goals as goal

pub returns : goal.returns
returns c =
    ap (λ (spot : Spot). Some (rule (BadBraces spot))) (spot_is c.args.place c.told_play.result c.step.result c.told_play.ensures c.step.ensures)
