use Rattle.batch_plan.proofs.FittingLemmas.{keep_is}
use Rattle.batch_plan.proofs.places_left.keep_room.Goals as goal

pub returns-clause-keep : goal.returns-clause-keep
returns-clause-keep c =
    keep_is c.args.fleet.now c.groups-groups.ensures.sound c.args.statuses.now c.args.batches.now c.keep_places.result c.keep_places.ensures.0 c.keep_places.ensures.1
