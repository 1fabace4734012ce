use Rattle.std.proofs.Common.{◌≡◌, length}
use denote.Text.{Utf8}
use denote.Shadow.{shadow}
use Rattle.undefined_names.specs.Lent.{names_found}
use Rattle.undefined_names.specs.UndefinedReads.{missed_in_word, once_behind}
use Rattle.undefined_names.proofs.gaps.add_word.Given as goal

-- what is left goes behind what was found
abbrev pub invariant-loop-part : goal.invariant-loop-part
invariant-loop-part g l =
    shadow (Utf8 l.rest)
    × (once_behind (names_found l.found) (missed_in_word (g.F.StaticEnv.outset l.foresight) l.rest)
    ≡ once_behind (names_found l.initial.found) (missed_in_word (g.F.StaticEnv.outset l.foresight) l.word))

abbrev pub decreases-loop-part : goal.decreases-loop-part
decreases-loop-part g l = length l.rest
