use Rattle.domains.specs.Patterns.{names_nothing}
use Rattle.play_forecast.specs.PlayPlans.{parts_of_play}
use Rattle.play_forecast.proofs.PatternLemmas.{fault_here, none_more}
use Rattle.play_forecast.proofs.patterns.look_up_all.Goals as goal

pub loop-play-preserved : goal.loop-play-preserved
loop-play-preserved c =
    none_more (names_nothing c.args.fleet.now) parts_of_play c.args.plays.now c.loop-play.play-index c.play-item.result c.play-item.is c.loop-play-test.true c.loop-play.invariant c.in_default.ensures.known

pub returns-in-Err-clause-err : goal.returns-in-Err-clause-err
returns-in-Err-clause-err c =
    fault_here c.args.fleet.now parts_of_play c.args.plays.now c.loop-play.play-index c.play-item.result c.play-item.is c.loop-play-test.true c.loop-play.invariant c.in-Err.fault c.in-Err.ensures.err
