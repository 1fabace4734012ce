use Rattle.std.proofs.Common.{◌≡◌, map, drop}
use Rattle.std.specs.List.{list_all}
use Rattle.serde_json.specs.View.{view}
use Rattle.playbook_schema.specs.Commands.{is_word}
use Rattle.play_read.proofs.argv.are_words.Given as goal

abbrev pub invariant-loop-value : goal.invariant-loop-value
invariant-loop-value l =
    list_all is_word (map view l.list) ≡ list_all is_word (map view (drop l.value-index l.list))
