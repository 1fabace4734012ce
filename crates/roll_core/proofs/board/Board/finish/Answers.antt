use Rattle.std.proofs.Common.{subst}
use Rattle.roll_core.specs.Views.{FrontsAreSafe, roll_of}
use Rattle.roll_core.specs.Boards.{BoardView}
use Rattle.roll_core.proofs.board.Board.finish.Goals as goal

pub returns-clause-safe : goal.returns-clause-safe
returns-clause-safe g c =
    subst (λ (v : BoardView g.row.R.Denot). FrontsAreSafe (roll_of v.kernel) v.kernel.log) c.self.view_is c.finish-log.ensures.safe
