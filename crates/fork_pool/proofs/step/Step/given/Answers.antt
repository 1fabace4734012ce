use Rattle.std.proofs.Common.{subst}
use Rattle.roll_core.specs.declared.claimed.Claimed.{Claimed}
use Rattle.fork_pool.specs.Inside.{IsItsOwn}
use Rattle.fork_pool.proofs.Claims.{own_entered}
use Rattle.fork_pool.proofs.step.Step.given.Goals as goal

pub returns-in-Settled-clause-given : goal.returns-in-Settled-clause-given
returns-in-Settled-clause-given g c =
    let own = subst (λ (claimed : Claimed g.row.R.Denot). IsItsOwn c.args.self.now.board claimed) c.in-Settled.is c.requires.own in
    let laws = g.met.R.Runner g.world.𝓛 g.world.𝓜 g.world.𝓡 ((λ s x. x), (λ x. x), (λ x. x), λ x. x) in
    (c.report.ensures.notes, own_entered g.R.Runner.alike laws.itself _ _ _ c.report.ensures.entered own.0 own.1)
