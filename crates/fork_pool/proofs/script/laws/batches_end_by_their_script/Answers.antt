use Rattle.event_log.proofs.ColumnFronts.{ends_by_columns}
use Rattle.roll_core.specs.Views.{roll_of}
use Rattle.fork_pool.specs.ScriptLines.{told_by}
use Rattle.fork_pool.proofs.script.laws.batches_end_by_their_script.Goals as goal

pub returns : goal.returns
returns g c =
    let board = c.args.board.now in
    record {
      tells = c.log-log.ensures.told;
      ends = λ halt at. ends_by_columns (roll_of board.kernel) board.kernel.log (told_by board.context.runner) halt c.log-log.ensures.legal c.log-log.ensures.told at;
    }
