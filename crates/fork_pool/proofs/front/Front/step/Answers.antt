use Rattle.fork_pool.proofs.Continuing.{after_split, goes_further}
use Rattle.fork_pool.proofs.front.Front.step.Goals as goal

pub returns-clause-continues : goal.returns-clause-continues
returns-clause-continues g c =
    goes_further _ _ _ (goes_further _ _ _ (after_split _ _ _ c.begin-step.ensures.board) c.resume.ensures.board) c.end.ensures.continues
