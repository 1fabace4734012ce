use Rattle.fork_pool.proofs.UnderWay.{done_after_join}
use Rattle.fork_pool.proofs.step.Step.end.Goals as goal

pub returns-else-out-gt0-clause-done : goal.returns-else-out-gt0-clause-done
returns-else-out-gt0-clause-done g c =
    done_after_join c.args.self.board c.join_tally.new.self c.args.self.notes c.join_tally.ensures.back c.requires c.if-notes.false c.out.ensures c.if-out-gt0.false
