use Rattle.std.proofs.Common.{◌≡◌, drop}
use Rattle.play_model.specs.declared.step.Step.{Step}
use Rattle.command_preview.specs.Inside.{views_of}
use Rattle.undefined_names.specs.NoValues.{first_of, misses_of_play, misses_of_step}
use Rattle.undefined_names.proofs.Firsts.{first_at}
use Rattle.undefined_names.proofs.context.first_of_play.Given as goal

-- the first of the steps that are left is the first
abbrev pub invariant-loop-place : goal.invariant-loop-place
invariant-loop-place l =
    first_at (λ place (step : Step). misses_of_step l.scene.registry.now.fleet.now (views_of l.scene.vars.now) l.scene.registry.now.plays.now l.number l.play place) l.place (drop l.place l.play.steps.items)
    ≡ first_of (misses_of_play l.scene.registry.now.fleet.now (views_of l.scene.vars.now) l.scene.registry.now.plays.now l.number l.play)
