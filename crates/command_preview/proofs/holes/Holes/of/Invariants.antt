use Rattle.std.proofs.Common.{◌≡◌, ◌≤◌, ◌*◌, length, take}
use Rattle.command_preview.specs.Inside.{AreHolesOf}
use Rattle.command_preview.specs.Unsure.{steps_of}
use Rattle.command_preview.proofs.holes.Holes.of.Given as goal

abbrev pub invariant-loop-play : goal.invariant-loop-play
invariant-loop-play l =
    record {
      kept : AreHolesOf l.holes.names (take l.play-index l.plays);
      behind : l.since ≡ length (steps_of (take l.play-index l.plays));
      small : l.since ≤ 256 * l.play-index;
    }
