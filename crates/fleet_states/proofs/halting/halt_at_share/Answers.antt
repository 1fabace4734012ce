use Rattle.std.proofs.Common.{ℕ, Bool, Some, sym, ◌∙◌}
use Rattle.fleet_index.specs.Ids.{host_numbers}
use Rattle.fleet_states.specs.Batches.{fails_in, halts_at}
use Rattle.fleet_states.proofs.LeastLemmas.{least_found, least_more}
use Rattle.fleet_states.proofs.halting.halt_at_share.Goals as goal

pub loop-step-preserved : goal.loop-step-preserved
loop-step-preserved c =
    let test : ℕ → Bool = halts_at (fails_in c.args.failing.now) (host_numbers c.args.batch.now) (Some c.args.percentage) in
    least_more test c.loop-step.step c.loop-step.invariant (sym c.halts_at.ensures ∙ c.if-halts_at.false)

pub returns-then-halts_at : goal.returns-then-halts_at
returns-then-halts_at c =
    let test : ℕ → Bool = halts_at (fails_in c.args.failing.now) (host_numbers c.args.batch.now) (Some c.args.percentage) in
    sym (least_found test c.args.steps c.loop-step.step c.loop-step-test.true c.loop-step.invariant (sym c.halts_at.ensures ∙ c.if-halts_at.true))
