use Rattle.std.proofs.Common.{Option, ◌∙◌, subst, sym, arith}
use Rattle.roll_core.specs.Givings.{IsGiving}
use Rattle.roll_core.specs.declared.claimed.Claimed.{Claimed}
use Rattle.fork_pool.proofs.Claims.{claimed_own}
use Rattle.fork_pool.proofs.UnderWay.{given_after_claim, kept_by_claiming, more_by_claiming}
use Rattle.fork_pool.proofs.step.Step.give.Goals as goal

pub invariant_of-self : goal.invariant_of-self
invariant_of-self g c =
    record { under_way = kept_by_claiming c.claim.result _ _ _ c.claim.ensures.ok c.claim.ensures.unchanged c.args.self.now.under_way }

pub given-requires-clause-own : goal.given-requires-clause-own
given-requires-clause-own g c κs within =
    let giving = subst (λ (out : Option (Claimed g.row.R.Denot)). IsGiving c.args.self.now.board c.claim.new.self out) c.in-Some.is c.in-Ok.ensures.ok in
    claimed_own c.args.self.now.board c.claim.new.self c.in-Some.claimed giving

pub given-requires-clause-claimed : goal.given-requires-clause-claimed
given-requires-clause-claimed g c κs within =
    let giving = subst (λ (out : Option (Claimed g.row.R.Denot)). IsGiving c.args.self.now.board c.claim.new.self out) c.in-Some.is c.in-Ok.ensures.ok in
    omega (arith, c.args.self.now.under_way.claimed, more_by_claiming c.args.self.now.board c.claim.new.self c.in-Some.claimed giving)

pub returns-in-Some-clause-given : goal.returns-in-Some-clause-given
returns-in-Some-clause-given g c =
    let giving = subst (λ (out : Option (Claimed g.row.R.Denot)). IsGiving c.args.self.now.board c.claim.new.self out) c.in-Some.is c.in-Ok.ensures.ok in
    let more = more_by_claiming c.args.self.now.board c.claim.new.self c.in-Some.claimed giving in
    given_after_claim c.args.self.now.board c.claim.new.self c.given.new.self.board c.args.self.now.notes c.given.new.self.notes c.given.result (sym c.is_stopped.ensures ∙ c.if-is_stopped.false) more c.given.ensures.given
