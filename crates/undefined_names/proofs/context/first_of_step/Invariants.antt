use Rattle.std.proofs.Common.{◌≡◌, drop, flat_map}
use Rattle.domains.specs.Ids.{host_numbers}
use Rattle.command_preview.specs.Inside.{views_of}
use Rattle.undefined_names.specs.NoValues.{first_of, misses_on}
use Rattle.undefined_names.proofs.Firsts.{first_each}
use Rattle.undefined_names.proofs.context.first_of_step.Given as goal

-- the first on the hosts that are left is the first
abbrev pub invariant-loop-host : goal.invariant-loop-host
invariant-loop-host l =
    first_each (misses_on l.scene.registry.now.fleet.now (views_of l.scene.vars.now) l.scene.registry.now.plays.now l.play l.place) (drop l.host-index l.hosts)
    ≡ first_of (flat_map (misses_on l.scene.registry.now.fleet.now (views_of l.scene.vars.now) l.scene.registry.now.plays.now l.play l.place) (host_numbers l.hosts))
