use Rattle.playbook_schema.proofs.PlaceLaws.{NoneBefore}
use Rattle.playbook_schema.proofs.command_place.place_of_no_word.Given as goal

abbrev pub invariant-loop-index : goal.invariant-loop-index
invariant-loop-index l = NoneBefore l.list l.index
