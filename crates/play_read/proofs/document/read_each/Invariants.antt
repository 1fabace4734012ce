use Rattle.std.proofs.Common.{◌≡◌, [], true, length, nat_lt, map, take, drop}
use Rattle.std.specs.List.{AllZip}
use Rattle.serde_json.specs.View.{view}
use Rattle.playbook_schema.specs.Plays.{checks_of_plays, play_of}
use Rattle.playbook_schema.specs.ToldFaults.{is_silent}
use Rattle.playbook_schema.proofs.AddLaws.{Leads}
use Rattle.play_read.specs.Reads.{IsPlay}
use Rattle.play_read.proofs.document.read_each.Given as goal

abbrev pub invariant-loop-index : goal.invariant-loop-index
invariant-loop-index l = record {
  found : Leads [] l.initial.faults l.faults (checks_of_plays (nat_lt 1 (length l.plays)) l.index (map view (drop l.index l.plays)))
      (checks_of_plays (nat_lt 1 (length l.plays)) 0 (map view l.plays));
  says : is_silent l.faults ≡ true → AllZip IsPlay (map play_of (map view (take l.index l.plays))) l.read.items;
}
