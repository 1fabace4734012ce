use Rattle.std.proofs.Common.{◌≡◌, subst}
use Rattle.event_log.specs.States.{failures}
use Rattle.roll_core.specs.Views.{KernelView, roll_of, state_of, view_of}
use Rattle.roll_core.proofs.kernel.Kernel.failures.Goals as goal

pub returns : goal.returns
returns c =
    let kernel : KernelView = view_of c.self.inside.roster c.self.inside.play.now c.self.inside.forks c.self.inside.start.now c.self.inside.vars.now c.self.inside.log.items in
    subst (λ (v : KernelView). c.failures.result ≡ failures (state_of v)) c.self.view_is (c.failures.ensures (roll_of kernel) (state_of kernel) c.self.invariant.held.works)
