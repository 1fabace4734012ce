use Rattle.std.proofs.Common.{◌≡◌, drop, map, string_bytes}
use Rattle.run_progress.specs.Options.{stands_before_the_end}
use Rattle.run_progress.proofs.options.stands_before_the_end.Given as goal

abbrev pub invariant-loop-word : goal.invariant-loop-word
invariant-loop-word l =
    stands_before_the_end l.name (drop l.word-index (map string_bytes l.words)) ≡ stands_before_the_end l.name (map string_bytes l.words)
