use Rattle.std.proofs.Common.{◌≡◌, length, ap, ◌∙◌, subst, arith}
use Rattle.std.proofs.lemmas.Option.{slice_get_within}
use Rattle.host_track.specs.Tracks.{counts_in}
use Rattle.roll_core.specs.Views.{KernelView, state_of, view_of}
use Rattle.roll_core.proofs.KeptLemmas.{kept_rows}
use Rattle.roll_core.proofs.kernel.Kernel.counts.Goals as goal

pub returns-in-Some-clause-value : goal.returns-in-Some-clause-value
returns-in-Some-clause-value c =
    let host = c.args.host.index in
    let shows = c.self.invariant.held.works.summaries host c.in-Some.summary.now c.in-Some.ensures in
    let kernel : KernelView = view_of c.self.inside.roster c.self.inside.play.now c.self.inside.forks c.self.inside.start.now c.self.inside.vars.now c.self.inside.log.items in
    let few = kept_rows kernel c.self.inside.roster c.self.inside.work _ c.self.invariant host in
    λ within.
    subst (λ (v : KernelView). c.counts.result ≡ counts_in ((state_of v).rows host)) c.self.view_is (c.counts.ensures ∙ shows.counts few)

pub returns-in-Some-clause-none : goal.returns-in-Some-clause-none
returns-in-Some-clause-none c =
    let inside = slice_get_within c.self.inside.work.summaries.items c.args.host.index c.in-Some.summary.now c.in-Some.ensures in
    λ past. absurd (omega (arith, inside, past, c.self.invariant.held.works.hosts, ap (λ (v : KernelView). length v.start) c.self.view_is))
