use Rattle.result_dependencies.specs.Reads.{names_in_condition, names_in_words}
use Rattle.result_dependencies.proofs.Firsts.{goes_on, stops}
use Rattle.result_dependencies.proofs.reading.read_before.Goals as goal

pub returns-in-None : goal.returns-in-None
returns-in-None g c =
    goes_on (g.N.Names.holds c.args.names.now) (names_in_condition c.args.step.now.when) (names_in_words c.args.step.now.words)
    c.first_in_condition.result c.first_in_words.result c.first_in_condition.ensures c.in-None.is c.first_in_words.ensures

pub returns-in_default : goal.returns-in_default
returns-in_default g c =
    stops (g.N.Names.holds c.args.names.now) (names_in_condition c.args.step.now.when) (names_in_words c.args.step.now.words)
    c.first_in_condition.result c.first_in_condition.ensures c.in_default.not-None
