use Rattle.std.proofs.Common.{take}
use Rattle.undefined_names.specs.Inside.{AreActsOf}
use Rattle.undefined_names.proofs.registry.Registry.of.Given as goal

-- those of the plays so far
abbrev pub invariant-loop-play : goal.invariant-loop-play
invariant-loop-play l = AreActsOf l.fleet (take l.play-index l.plays) l.acts.items
