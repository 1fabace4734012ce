use Rattle.std.proofs.Common.{◌≡◌, ◌++◌, drop}
use Rattle.std.specs.List.{filter_map}
use Rattle.playbook_schema.specs.Known.{known, texts}
use Rattle.playbook_schema.specs.Names.{place_of}
use Rattle.play_read.proofs.notified.numbers_of.Given as goal

abbrev pub invariant-loop-value : goal.invariant-loop-value
invariant-loop-value l =
    l.numbers.items ++ filter_map (place_of (known l.handlers)) (texts (drop l.value-index l.names)) ≡ filter_map (place_of (known l.handlers)) (texts l.names)
