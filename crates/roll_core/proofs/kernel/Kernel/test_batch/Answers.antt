use Rattle.std.proofs.Common.{sym, ◌∙◌}
use Rattle.event_log.specs.declared.stage.Stage.TheVariants.{Between}
use Rattle.roll_core.specs.Views.{KernelView, view_of}
use Rattle.roll_core.proofs.KeptLemmas.{kept_nobody, kept_phase, kept_safe}
use Rattle.roll_core.proofs.kernel.Kernel.test_batch.Goals as goal

pub try_batch-requires-clause-rest : goal.try_batch-requires-clause-rest
try_batch-requires-clause-rest c =
    let kernel : KernelView = view_of c.self.inside.roster c.self.inside.play.now c.self.inside.forks c.self.inside.start.now c.self.inside.vars.now c.self.inside.log.items in
    let at = kept_phase kernel c.self.inside.roster c.self.inside.work _ c.self.invariant Between (sym c.stage.ensures ∙ c.in-Between.is) in
    kept_nobody kernel c.self.inside.roster c.self.inside.work _ c.self.invariant at

pub try_batch-requires-clause-safe : goal.try_batch-requires-clause-safe
try_batch-requires-clause-safe c =
    let kernel : KernelView = view_of c.self.inside.roster c.self.inside.play.now c.self.inside.forks c.self.inside.start.now c.self.inside.vars.now c.self.inside.log.items in
    kept_safe kernel c.self.inside.roster c.self.inside.work _ c.self.invariant
