use Rattle.std.proofs.Common.{◌<◌, length, subst, sym}
use Rattle.plan_command.proofs.PlayLemmas.{has_play}
use Rattle.rollout.proofs.commands.drawing.draw.Goals as goal

pub foresee-requires : goal.foresee-requires
foresee-requires g c =
    let plays = c.in-Ok-read_known_plays.plays.items in
    record { some = subst (λ l. 0 < length l) (sym c.as_slice.ensures.value) (has_play 16 c.args.playbook.now plays c.in-Ok-read_known_plays.ensures.ok.reads) }
