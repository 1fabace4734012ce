use Rattle.std.proofs.Common.{refl}
use Rattle.event_log.specs.States.{start_state}
use Rattle.roll_core.specs.Views.{roll_of}
use Rattle.fork_pool.proofs.Outs.{out_distinct}
use Rattle.fork_pool.proofs.boards.nobody_is_out_twice.Goals as goal

pub returns : goal.returns
returns g c =
    out_distinct (roll_of c.args.board.now.kernel) (start_state (roll_of c.args.board.now.kernel)) c.args.board.now.kernel.log refl c.log-log.ensures.legal
