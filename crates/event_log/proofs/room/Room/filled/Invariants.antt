use Rattle.std.proofs.Common.{◌≡◌, ◌≤◌, ◌+◌, ◌++◌, length, map, vec_capacity}
use Rattle.std.specs.Vec.Iter.{into_iter_items}
use Rattle.host_track.specs.Hosts.{Known, known_of, without_debt}
use Rattle.host_track.specs.declared.summary.Summary.{Summary}
use Rattle.event_log.proofs.room.Room.filled.Given as goal

abbrev left_of : Summary → Known
left_of summary = without_debt (known_of summary.vars)

abbrev pub invariant-loop-summary : goal.invariant-loop-summary
invariant-loop-summary l =
    record {
      vars : map known_of l.vars.items ++ map left_of (into_iter_items l.summary-iterator) ≡ map left_of l.fn.summaries.items;
      counts : l.counts.items ++ map (λ (summary : Summary). summary.counts) (into_iter_items l.summary-iterator) ≡ map (λ (summary : Summary). summary.counts) l.fn.summaries.items;
      vars_fit : length l.vars.items + length (into_iter_items l.summary-iterator) ≤ vec_capacity l.vars;
      counts_fit : length l.counts.items + length (into_iter_items l.summary-iterator) ≤ vec_capacity l.counts;
    }
