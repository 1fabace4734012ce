use Rattle.std.proofs.Common.{◌∙◌, ap, subst}
use Rattle.event_log.proofs.RestFronts.{legal_rest}
use Rattle.event_log.proofs.SafeFronts.{legal_fronts}
use Rattle.roll_core.specs.Leavings.{AreCounted, AreKnown}
use Rattle.roll_core.specs.Views.{FrontsAreSafe, RestsAtBoundaries, KernelView, roll_of, state_of, view_of}
use Rattle.roll_core.proofs.KeptLemmas.{kept_rows}
use Rattle.roll_core.proofs.LeavingLemmas.{counts_left, vars_left}
use Rattle.roll_core.proofs.kernel.Kernel.finish.Goals as goal

pub returns-clause-safe : goal.returns-clause-safe
returns-clause-safe c =
    let kept = c.self.invariant in
    let kernel : KernelView = view_of c.self.inside.roster c.self.inside.play.now c.self.inside.forks c.self.inside.start.now c.self.inside.vars.now c.self.inside.log.items in
    subst (λ (v : KernelView). FrontsAreSafe (roll_of v) v.log) c.self.view_is (legal_fronts (roll_of kernel) kernel.log kept.safe kept.legal)

pub returns-clause-rests : goal.returns-clause-rests
returns-clause-rests c =
    let kept = c.self.invariant in
    let kernel : KernelView = view_of c.self.inside.roster c.self.inside.play.now c.self.inside.forks c.self.inside.start.now c.self.inside.vars.now c.self.inside.log.items in
    subst (λ (v : KernelView). RestsAtBoundaries (roll_of v) v.log) c.self.view_is (legal_rest (roll_of kernel) kernel.log kept.rests kept.legal)

pub returns-clause-statuses : goal.returns-clause-statuses
returns-clause-statuses c =
    c.into_statuses-statuses.ensures ∙ c.self.invariant.held.statuses ∙ ap (λ (v : KernelView). (state_of v).statuses) c.self.view_is

pub returns-clause-vars : goal.returns-clause-vars
returns-clause-vars c =
    let kernel : KernelView = view_of c.self.inside.roster c.self.inside.play.now c.self.inside.forks c.self.inside.start.now c.self.inside.vars.now c.self.inside.log.items in
    let left = vars_left (roll_of kernel) (state_of kernel) c.self.inside.work c.self.invariant.held.works c.finish-vars.result.0.items c.finish-vars.ensures.vars in
    subst (λ (v : KernelView). AreKnown (roll_of v) (state_of v) c.finish-vars.result.0.items) c.self.view_is left

pub returns-clause-counts : goal.returns-clause-counts
returns-clause-counts c =
    let kernel : KernelView = view_of c.self.inside.roster c.self.inside.play.now c.self.inside.forks c.self.inside.start.now c.self.inside.vars.now c.self.inside.log.items in
    let left = counts_left (roll_of kernel) (state_of kernel) c.self.inside.work c.self.invariant.held.works
    (kept_rows kernel c.self.inside.roster c.self.inside.work _ c.self.invariant) c.finish-vars.result.1.items c.finish-vars.ensures.counts in
    subst (λ (v : KernelView). AreCounted (roll_of v) (state_of v) c.finish-vars.result.1.items) c.self.view_is left
