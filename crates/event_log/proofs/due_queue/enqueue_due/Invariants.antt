use Rattle.std.proofs.Common.{◌≡◌, ◌≤◌, drop, length, true}
use Rattle.fleet_index.specs.NumberLists.{are_below}
use Rattle.domains.specs.Ids.{host_numbers}
use Rattle.event_log.specs.Turns.{HaveLinedUp, due_at}
use Rattle.event_log.proofs.due_queue.enqueue_due.Given as goal

abbrev pub decreases-loop-place : goal.decreases-loop-place
decreases-loop-place l = l.place

abbrev pub invariant-loop-place : goal.invariant-loop-place
invariant-loop-place l =
    record {
      all : length l.turns ≡ length l.initial.turns;
      places : length l.line ≡ length l.initial.line;
      queued : are_below (length l.summaries) (host_numbers l.line) ≡ true;
      inside : l.first ≤ length l.batch;
      room : l.place ≤ l.first;
      lined : HaveLinedUp (due_at l.play l.step l.summaries) (host_numbers (drop l.place l.batch)) l.initial.turns l.turns (host_numbers (drop l.first l.line));
    }
