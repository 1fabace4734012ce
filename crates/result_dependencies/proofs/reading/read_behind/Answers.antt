use Rattle.result_dependencies.specs.Reads.{names_in_condition}
use Rattle.result_dependencies.proofs.Firsts.{goes_on, stops}
use Rattle.result_dependencies.proofs.reading.read_behind.Goals as goal

pub returns-in-None : goal.returns-in-None
returns-in-None g c =
    goes_on (g.N.Names.holds c.args.names.now) (names_in_condition c.args.step.now.changed_when) (names_in_condition c.args.step.now.failed_when)
    c.first_in_condition.result c.first_in_condition-in-None.result c.first_in_condition.ensures c.in-None.is c.first_in_condition-in-None.ensures

pub returns-in_default : goal.returns-in_default
returns-in_default g c =
    stops (g.N.Names.holds c.args.names.now) (names_in_condition c.args.step.now.changed_when) (names_in_condition c.args.step.now.failed_when)
    c.first_in_condition.result c.first_in_condition.ensures c.in_default.not-None
