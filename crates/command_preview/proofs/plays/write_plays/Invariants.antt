use Rattle.std.proofs.Common.{◌≡◌, ◌≤◌, ◌*◌, ◌+◌, ◌++◌, ℕ, List, length, nat_lt, take}
use Rattle.std.specs.List.{list_any}
use Rattle.bounded_io.specs.Writing.{Writes}
use Rattle.play_model.specs.declared.play.Play.{Play}
use Rattle.recap.specs.RecapText.{text_by_place}
use Rattle.command_preview.specs.Inside.{told_by, views_of}
use Rattle.command_preview.specs.Lines.{fails, head_text, lines_of_play, lines_text, unsure_in, Line}
use Rattle.command_preview.specs.Unsure.{steps_of}
use Rattle.command_preview.proofs.plays.write_plays.Given as goal

abbrev pub invariant-loop-place : goal.invariant-loop-place
invariant-loop-place g l =
    let lines : ℕ → Play → List Line =
    λ place play. lines_of_play l.scene.fleet.now (views_of l.scene.vars.now) (unsure_in (steps_of (take place l.plays)) play) play in
    let piece : ℕ → Play → List ℕ = λ place play. head_text (nat_lt 1 (length l.plays)) (place + 1) ++ lines_text (lines place play) in
    record {
      written : Writes g.W.Write.contents l.initial.text l.text (text_by_place piece 0 (take l.place l.plays));
      told : l.fails ≡ told_by (λ place play. list_any fails (lines place play)) 0 (take l.place l.plays);
      behind : l.before ≡ length (steps_of (take l.place l.plays));
      small : l.before ≤ 256 * l.place;
    }
