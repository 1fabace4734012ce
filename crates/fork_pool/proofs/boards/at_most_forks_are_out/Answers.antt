use Rattle.event_log.proofs.ClaimFronts.{legal_bounded}
use Rattle.roll_core.specs.Views.{roll_of}
use Rattle.fork_pool.proofs.boards.at_most_forks_are_out.Goals as goal

pub returns : goal.returns
returns g c n = legal_bounded (roll_of c.args.board.now.kernel) c.args.board.now.kernel.log c.log-log.ensures.legal n
