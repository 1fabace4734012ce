use Rattle.std.proofs.Common.{◌≡◌, drop, flat_map}
use Rattle.text_syntax.specs.Telling.{with_breaches}
use Rattle.all_faults.specs.PatternNames.{unknown_in}
use Rattle.all_faults.proofs.pattern_names.pattern_faults.Given as goal

abbrev pub invariant-loop-play : goal.invariant-loop-play
invariant-loop-play l =
    with_breaches l.told (flat_map (unknown_in l.fleet) (drop l.play-index l.plays)) ≡ with_breaches l.initial.told (flat_map (unknown_in l.fleet) l.plays)
