use Rattle.std.proofs.Common.{◌&&◌, not, sym, ap, ◌∙◌, arith}
use Rattle.fleet_index.specs.NumberLists.{has_number}
use Rattle.plan_check.proofs.HostLemmas.{end_at, end_none}
use Rattle.plan_check.proofs.hosts.wrong_end.Goals as goal

pub returns-then-not-stood-index : goal.returns-then-not-stood-index
returns-then-not-stood-index c before marks =
    let i = c.loop-index.index in
    let mark = marks i (omega arith) in
    end_at c.args.statuses.now before i (omega arith) (c.loop-index.invariant before marks)
    (ap (λ b. b && not (has_number i before)) (sym c.is_waiting.ensures ∙ c.if-is_waiting.true) ∙ ap not (sym mark ∙ c.if-not-stood-index.true))

pub returns : goal.returns
returns c before marks = end_none c.args.statuses.now before (λ k l. c.loop-index.invariant before marks k (omega (arith, l)))
