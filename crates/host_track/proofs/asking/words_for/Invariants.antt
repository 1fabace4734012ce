use Rattle.std.proofs.Common.{◌≡◌, map, drop, string_bytes}
use Rattle.host_track.specs.Hosts.{known_of, values_in}
use Rattle.host_track.specs.Asking.{words_asked}
use Rattle.host_track.specs.Inside.{onto}
use Rattle.host_track.proofs.asking.words_for.Given as goal

abbrev pub invariant-loop-place : goal.invariant-loop-place
invariant-loop-place l =
    words_asked (values_in (known_of l.vars)) l.step.words ≡ onto (map string_bytes l.words.items) (words_asked (values_in (known_of l.vars)) (drop l.place l.step.words))
