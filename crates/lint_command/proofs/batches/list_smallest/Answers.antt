use Rattle.lint_command.proofs.BatchLemmas.{smallest_more}
use Rattle.lint_command.proofs.batches.list_smallest.Goals as goal

pub loop-play-preserved : goal.loop-play-preserved
loop-play-preserved c =
    smallest_more c.args.fleet.now c.args.plays.now c.loop-play.sizes.items c.push.new.self.items c.loop-play.play-index c.play-item.result c.in_ok-smallest_of.field-0
    c.loop-play-test.true c.play-item.is c.in_ok-push.ensures.items c.in_ok-smallest_of.ensures c.loop-play.invariant
