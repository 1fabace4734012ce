use Rattle.std.proofs.Common.{None, get_or, length, sym, ◌∙◌, arith}
use Rattle.domains.specs.Starts.{exceeds}
use Rattle.plan_check.proofs.LawLemmas.{find_first, find_none}
use Rattle.plan_check.proofs.groups.find_over.Goals as goal

pub returns-then-exceeds : goal.returns-then-exceeds
returns-then-exceeds c =
    let i = c.loop-place.place in
    sym (find_first (λ place. exceeds (get_or c.args.rooms.now place None) (get_or c.args.counts.now place 0)) 0 (length c.args.counts.now) i
    (λ k from less. c.loop-place.invariant k less) (omega arith) (omega arith) (sym c.exceeds.ensures ∙ c.if-exceeds.true))

pub returns : goal.returns
returns c =
    sym (find_none (λ place. exceeds (get_or c.args.rooms.now place None) (get_or c.args.counts.now place 0)) 0 (length c.args.counts.now)
    (λ j from below. c.loop-place.invariant j (omega (arith, below))))
