use Rattle.std.proofs.Common.{◌≡◌, ◌++◌, map, drop}
use Rattle.std.specs.List.{filter_map}
use Rattle.serde_json.specs.View.{view}
use Rattle.playbook_schema.specs.Commands.{word_of}
use Rattle.play_read.proofs.argv.words_among.Given as goal

abbrev pub invariant-loop-value : goal.invariant-loop-value
invariant-loop-value l =
    l.words ++ filter_map word_of (map view (drop l.value-index l.list)) ≡ filter_map word_of (map view l.list)
