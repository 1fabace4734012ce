use Rattle.std.proofs.Common.{◌≡◌, drop}
use Rattle.undefined_names.specs.Lent.{names_found}
use Rattle.undefined_names.specs.UndefinedReads.{missed_in_words, once_behind}
use Rattle.undefined_names.proofs.Onces.{once_words}
use Rattle.undefined_names.proofs.gaps.add_words.Given as goal

-- what is left goes behind what was found
abbrev pub invariant-loop-place : goal.invariant-loop-place
invariant-loop-place g l =
    once_words (g.F.StaticEnv.outset l.foresight) (names_found l.found) (drop l.place l.words)
    ≡ once_behind (names_found l.initial.found) (missed_in_words (g.F.StaticEnv.outset l.foresight) l.words)
