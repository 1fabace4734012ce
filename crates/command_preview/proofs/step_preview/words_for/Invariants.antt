use Rattle.std.proofs.Common.{◌≡◌, map, drop, string_bytes}
use Rattle.host_track.specs.Asking.{words_asked}
use Rattle.host_track.specs.Inside.{onto}
use Rattle.command_preview.specs.Inside.{foreseen_by}
use Rattle.command_preview.proofs.step_preview.words_for.Given as goal

abbrev pub invariant-loop-place : goal.invariant-loop-place
invariant-loop-place l =
    words_asked (foreseen_by l.foreseen) l.words ≡ onto (map string_bytes l.texts.items) (words_asked (foreseen_by l.foreseen) (drop l.place l.words))
