use Rattle.rollout.proofs.Tables.{WritesTable-of_fleet, BreaksTable-of_fleet}
use Rattle.rollout.proofs.commands.limits.limits_text.Goals as goal

pub returns-in-Ok-clause-ok : goal.returns-in-Ok-clause-ok
returns-in-Ok-clause-ok g c =
    WritesTable-of_fleet c.args.inventory.now c.in_ok-fleet.fleet _ _ c.in_ok-fleet.ensures.ok c.in-Ok.ensures

pub returns-clause-err : goal.returns-clause-err
returns-clause-err g c =
    BreaksTable-of_fleet c.args.inventory.now c.in_ok-fleet.fleet _ _ c.in-Err.fault.written c.in_ok-fleet.ensures.ok c.in-Err.ensures
