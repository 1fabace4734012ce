use Rattle.std.proofs.Common.{sym, ◌∙◌}
use Rattle.rollout.proofs.Ignoring.{says_here, says_nothing, says_on, tail_is}
use Rattle.rollout.proofs.children.says_ignored.Goals as goal

pub returns-then-starts_ignored : goal.returns-then-starts_ignored
returns-then-starts_ignored c =
    let text = c.args.text.now in
    let i = c.loop-place.place in
    says_here text i c.loop-place-test.true (sym (rw (tail_is text i) at c.starts_ignored.ensures) ∙ c.if-starts_ignored.true) ∙ c.loop-place.invariant

pub loop-place-preserved : goal.loop-place-preserved
loop-place-preserved c =
    let text = c.args.text.now in
    let i = c.loop-place.place in
    says_on text i c.loop-place-test.true (sym (rw (tail_is text i) at c.starts_ignored.ensures) ∙ c.if-starts_ignored.false) ∙ c.loop-place.invariant

pub returns : goal.returns
returns c = says_nothing c.args.text.now c.loop-place.place c.loop-place-test.false ∙ c.loop-place.invariant
