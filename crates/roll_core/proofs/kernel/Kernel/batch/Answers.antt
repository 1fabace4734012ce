use Rattle.std.proofs.Common.{◌≡◌, ap, ◌∙◌, subst}
use Rattle.domains.specs.Ids.{host_numbers}
use Rattle.roll_core.specs.Views.{KernelView, state_of}
use Rattle.roll_core.proofs.kernel.Kernel.batch.Goals as goal

pub returns : goal.returns
returns c =
    subst (λ (v : KernelView). host_numbers c.batch.result.now ≡ (state_of v).batch) c.self.view_is (ap host_numbers c.batch.ensures ∙ c.self.invariant.held.works.batch)
