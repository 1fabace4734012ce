use Rattle.std.proofs.Common.{◌≡◌, ℕ, ◌<◌, false, length, get_or, take}
use Rattle.run_diagnosis.specs.LeftOut.{is_named}
use Rattle.run_diagnosis.proofs.skipped.flag_named.Given as goal

abbrev pub invariant-loop-play : goal.invariant-loop-play
invariant-loop-play l =
    (length l.flags.items ≡ length l.fleet.hosts)
    × ((host : ℕ) → host < length l.fleet.hosts → get_or l.flags.items host false ≡ is_named l.fleet (take l.play-index l.plays) host)
