use Rattle.std.proofs.Common.{take}
use Rattle.std.specs.Prelude.{flat_map}
use Rattle.bounded_io.specs.Writing.{Writes}
use Rattle.journal.specs.Entries.{outcome_text}
use Rattle.journal.specs.Shown.{shown_outcome}
use Rattle.journal.specs.declared.entry.Outcome.{Outcome}
use Rattle.journal.proofs.encode.write_outcomes.Given as goal

abbrev pub invariant-loop-outcome : goal.invariant-loop-outcome
invariant-loop-outcome g l =
    Writes g.W.Write.contents l.initial.text l.text (flat_map (λ (outcome : Outcome). outcome_text l.fleet (shown_outcome outcome)) (take l.outcome-index l.outcomes))
