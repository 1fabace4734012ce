use Rattle.std.proofs.Common.{◌≡◌, ℕ, take}
use Rattle.bounded_io.specs.Writing.{Writes}
use Rattle.host_vars.specs.HostVars.{variables_of}
use Rattle.play_model.specs.declared.step.Step.{Step}
use Rattle.recap.specs.RecapText.{text_by_place}
use Rattle.command_preview.specs.Holes.{unsure_from}
use Rattle.command_preview.specs.Inside.{told_by}
use Rattle.command_preview.specs.Lines.{fails, line_at, line_text, Line}
use Rattle.command_preview.proofs.hosts.write_steps.Given as goal

abbrev pub invariant-loop-place : goal.invariant-loop-place
invariant-loop-place g l =
    let line : ℕ → Step → Line =
    line_at (unsure_from l.stage.holes.now.names l.stage.before) l.stage.play.now l.host (variables_of l.stage.vars.now) in
    record {
      written : Writes g.W.Write.contents l.initial.text l.text (text_by_place (λ place step. line_text (line place step)) 0 (take l.place l.stage.play.now.steps.items));
      told : l.fails ≡ told_by (λ place step. fails (line place step)) 0 (take l.place l.stage.play.now.steps.items);
    }
