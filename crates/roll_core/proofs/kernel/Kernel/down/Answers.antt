use Rattle.std.proofs.Common.{◌≡◌, List, ap, ◌∙◌, subst}
use Rattle.fleet_states.specs.declared.status.Status.{Status}
use Rattle.fleet_states.specs.Statuses.{down_count}
use Rattle.fleet_states.specs.Groups.{group_at, groups_of}
use Rattle.roll_core.specs.Views.{KernelView, state_of}
use Rattle.roll_core.proofs.kernel.Kernel.down.Goals as goal

pub returns : goal.returns
returns c =
    let group = c.args.group.index in
    let counted = c.down.ensures ∙ ap (λ (l : List Status). down_count l (group_at (groups_of c.self.inside.roster.fleet) group).members) c.self.invariant.held.statuses in
    subst (λ (v : KernelView). c.down.result ≡ down_count (state_of v).statuses (group_at (groups_of v.fleet) group).members) c.self.view_is counted
