use Rattle.std.proofs.Common.{ℕ, List, arith, refl, subst}
use Rattle.bounded_io.specs.Writing.{Writes}
use Rattle.bounded_io.proofs.Pieces.{writes_each}
use Rattle.journal.specs.Entries.{outcome_text}
use Rattle.journal.specs.Shown.{shown_outcome}
use Rattle.journal.specs.declared.entry.Outcome.{Outcome}
use Rattle.journal.proofs.SayLemmas.{spread_all}
use Rattle.journal.proofs.encode.write_outcomes.Goals as goal

pub loop-outcome-preserved : goal.loop-outcome-preserved
loop-outcome-preserved g c =
    writes_each _ (λ (outcome : Outcome). outcome_text c.args.fleet.now (shown_outcome outcome)) c.args.outcomes.now c.loop-outcome.outcome-index _ _ _ _ _ c.loop-outcome.invariant
    c.write_outcome.ensures refl (omega arith)

pub returns : goal.returns
returns g c =
    subst (λ (l : List ℕ). Writes g.W.Write.contents c.args.text.now c.loop-outcome.text l)
    (spread_all (outcome_text c.args.fleet.now) shown_outcome c.args.outcomes.now c.loop-outcome.outcome-index c.loop-outcome-test.false) c.loop-outcome.invariant
