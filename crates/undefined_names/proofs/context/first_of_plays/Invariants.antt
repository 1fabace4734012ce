use Rattle.std.proofs.Common.{◌≡◌, drop}
use Rattle.command_preview.specs.Inside.{views_of}
use Rattle.undefined_names.specs.NoValues.{first_of, misses_of_play, misses_of_plays}
use Rattle.undefined_names.proofs.Firsts.{first_at}
use Rattle.undefined_names.proofs.context.first_of_plays.Given as goal

-- the first of the plays that are left is the first
abbrev pub invariant-loop-number : goal.invariant-loop-number
invariant-loop-number l =
    first_at (misses_of_play l.scene.registry.now.fleet.now (views_of l.scene.vars.now) l.scene.registry.now.plays.now) l.number (drop l.number l.plays)
    ≡ first_of (misses_of_plays l.scene.registry.now.fleet.now (views_of l.scene.vars.now) l.scene.registry.now.plays.now)
