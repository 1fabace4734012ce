use Rattle.std.proofs.Common.{sym, subst}
use Rattle.roll_run.specs.Inside.{HasSetAside}
use Rattle.roll_run.proofs.Behind.{nobody}
use Rattle.roll_run.proofs.Passing.{sets_nobody}
use Rattle.roll_run.proofs.boundary.set_aside.Goals as goal

pub returns-in-empty-clause-ok : goal.returns-in-empty-clause-ok
returns-in-empty-clause-ok g c =
    subst (λ hosts. HasSetAside hosts c.args.board.now c.args.board.now) (sym (nobody c.args.held.now c.in-empty.len_below)) (sets_nobody c.args.board.now)
