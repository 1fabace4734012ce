use Rattle.std.proofs.Common.{◌≡◌}
use Rattle.journal.specs.Guesses.{each, outcome_in}
use Rattle.journal.specs.Shown.{shown_outcomes}
use Rattle.journal.proofs.EachLemmas.{with_those, words_left, size_left}
use Rattle.journal.proofs.parse.outcomes_in.Given as goal

abbrev pub invariant-loop-left : goal.invariant-loop-left
invariant-loop-left l =
    each (outcome_in l.fleet) (words_left l.words) ≡ with_those (shown_outcomes l.outcomes.items) (each (outcome_in l.fleet) (words_left l.left))

abbrev pub decreases-loop-left : goal.decreases-loop-left
decreases-loop-left l = size_left l.left
