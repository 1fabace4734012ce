use Rattle.std.proofs.Common.{subst}
use Rattle.event_log.proofs.RestFronts.{legal_rest}
use Rattle.event_log.proofs.SafeFronts.{legal_fronts}
use Rattle.roll_core.specs.Views.{KernelView, FrontsAreSafe, RestsAtBoundaries, roll_of, view_of}
use Rattle.roll_core.proofs.kernel.Kernel.log.Goals as goal

pub returns-clause-safe : goal.returns-clause-safe
returns-clause-safe c =
    let kept = c.self.invariant in
    let kernel : KernelView = view_of c.self.inside.roster c.self.inside.play.now c.self.inside.forks c.self.inside.start.now c.self.inside.vars.now c.self.inside.log.items in
    subst (λ (v : KernelView). FrontsAreSafe (roll_of v) v.log) c.self.view_is (legal_fronts (roll_of kernel) kernel.log kept.safe kept.legal)

pub returns-clause-rests : goal.returns-clause-rests
returns-clause-rests c =
    let kept = c.self.invariant in
    let kernel : KernelView = view_of c.self.inside.roster c.self.inside.play.now c.self.inside.forks c.self.inside.start.now c.self.inside.vars.now c.self.inside.log.items in
    subst (λ (v : KernelView). RestsAtBoundaries (roll_of v) v.log) c.self.view_is (legal_rest (roll_of kernel) kernel.log kept.rests kept.legal)
