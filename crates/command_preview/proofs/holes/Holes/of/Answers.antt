use Rattle.std.proofs.Common.{◌≡◌, ◌||◌, ◌-◌, ◌+◌, ℕ, take, length, ap, ◌∙◌, arith}
use Rattle.play_model.specs.declared.play.Play.{Play}
use Rattle.command_preview.specs.Unsure.{is_registered, steps_of}
use Rattle.command_preview.proofs.Keeping.{play_more}
use Rattle.command_preview.proofs.PlayLines.{behind_more}
use Rattle.command_preview.proofs.holes.Holes.of.Goals as goal

pub loop-play-preserved : goal.loop-play-preserved
loop-play-preserved c =
    let plays = c.args.plays.now in
    let i : ℕ = c.loop-play.play-index in
    let play : Play = c.play-item.result in
    let since : ℕ = c.loop-play.since in
    let inv = c.loop-play.invariant in
    let steps : length c.steps-in-loop-play.result.now ≡ length play.steps.items = ap length c.steps-in-loop-play.ensures.value in
    record {
      kept =
          λ count name.
          c.in_ok-add_all.ensures count name ∙ ap (λ b. b || is_registered (take (count - since) c.steps.result.now) name) (inv.kept count name)
          ∙ ap (λ l. is_registered (take count (steps_of (take i plays))) name || is_registered (take (count - since) l) name) c.steps.ensures.value
          ∙ play_more plays i since count play name c.loop-play-test.true c.play-item.is inv.behind;
      behind = ap (λ n. since + n) steps ∙ behind_more plays i since play c.loop-play-test.true c.play-item.is inv.behind;
      small = omega (arith, inv.small, steps, play.sound.few_steps);
    }
