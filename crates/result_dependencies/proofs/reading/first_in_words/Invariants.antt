use Rattle.std.proofs.Common.{◌≡◌, map, drop}
use Rattle.std.specs.List.{find}
use Rattle.cond.proofs.Mentioned.{first_in}
use Rattle.result_dependencies.specs.Reads.{names_in_word, names_in_words}
use Rattle.result_dependencies.proofs.reading.first_in_words.Given as goal

-- the first one in the rest is the first one
abbrev pub invariant-loop-place : goal.invariant-loop-place
invariant-loop-place g l =
    first_in (g.N.Names.holds l.names) (map names_in_word (drop l.place l.words)) ≡ find (g.N.Names.holds l.names) (names_in_words l.words)
