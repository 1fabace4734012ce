use Rattle.std.proofs.Common.{rules, ap}
use Rattle.roll_core.specs.Views.{KernelView}
use Rattle.roll_core.proofs.HearLemmas.{untold}
use Rattle.roll_core.proofs.board.Board.new.Goals as goal

pub invariant_of-result : goal.invariant_of-result
invariant_of-result g c =
    (search rules, untold g.W.Observer.hears c.in-Ok-new.kernel c.args.watch (ap (λ (k : KernelView). k.log) c.in-Ok-new.ensures))
