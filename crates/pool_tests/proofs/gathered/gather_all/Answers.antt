use Rattle.std.proofs.Common.{◌≡◌, ◌+◌, ◌∙◌, rules}
use Rattle.pool_tests.proofs.gathered.gather_all.Goals as goal

pub gather-requires-clause-line : goal.gather-requires-clause-line
gather-requires-clause-line g c =
    let step = c.in-Some.ensures.steps in
    let first : c.in-Some.worker.promise.given.value.line ≡ c.loop-worker.front.line = let h = c.loop-worker.invariant.1 0 c.in-Some.worker in grind rules in
    c.join.ensures ∙ first

pub loop-worker-preserved : goal.loop-worker-preserved
loop-worker-preserved g c =
    let was = c.loop-worker.invariant in
    let step = c.in-Some.ensures.steps in
    (grind rules, λ k d below. let h = was.1 (k + 1) d in grind rules)
