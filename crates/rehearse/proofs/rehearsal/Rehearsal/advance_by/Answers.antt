use Rattle.std.proofs.Common.{◌≡◌, ℕ, suc, ◌+◌, ◌-◌, true, None, length, refl, sym, ap, ◌∙◌, subst, arith}
use Rattle.std.specs.Prelude.{is_some}
use Rattle.rehearse.specs.Kept.{IsKept}
use Rattle.rehearse.specs.Stacks.{RehearsalView, top}
use Rattle.rehearse.proofs.EndLemmas.{ends_by, not_over}
use Rattle.rehearse.proofs.GoingOnLemmas.{IsGoingOn, begins_going, goes_on_more, over_early}
use Rattle.rehearse.proofs.StackLemmas.{kept-push}
use Rattle.rehearse.proofs.rehearsal.Rehearsal.advance_by.Goals as goal

pub returns-then-is_some-clause-ok : goal.returns-then-is_some-clause-ok
returns-then-is_some-clause-ok c =
    let over : is_some (top c.loop.self).end ≡ true = sym (ap is_some c.end.ensures) ∙ sym c.is_some.ensures ∙ c.if-is_some.true in
    over_early c.args.count c.args.marked.now c.args.self.now (c.args.count - c.loop.counter) c.loop.self c.loop.invariant.going over

pub loop-preserved : goal.loop-preserved
loop-preserved c =
    let count : ℕ = c.args.count in
    let now = c.loop.self in
    let none = not_over (top now).end c.end.result c.is_some.result c.end.ensures c.is_some.ensures c.if-is_some.false in
    let advanced = c.in-Ok.ensures.ok in
    let left : count - c.loop.counter ≡ suc (count - (c.loop.counter + 1)) = omega (arith, c.loop-test.true, c.loop.auto.counter-end, c.loop.invariant.within) in
    record {
      going = goes_on_more count c.args.marked.now c.args.self.now (count - (c.loop.counter + 1)) now c.advance_marked.new.self
          (subst (λ (n : ℕ). IsGoingOn count c.args.marked.now c.args.self.now n now) left c.loop.invariant.going) none advanced;
      kept = subst IsKept (sym advanced.grown) (kept-push now advanced.stage c.loop.invariant.kept advanced.behind);
      within = omega (arith, c.loop-test.true, c.loop.auto.counter-end, c.loop.invariant.within);
      stages_are = c.loop.invariant.stages_are;
    }

pub returns-clause-to_end : goal.returns-clause-to_end
returns-clause-to_end c = λ many.
    ends_by c.args.count c.args.marked.now c.args.self.now (c.args.count - c.loop.counter) c.loop.self c.loop.invariant.going (omega (arith, c.loop-test.false, c.loop.auto.counter-end))
    c.loop.invariant.kept many
