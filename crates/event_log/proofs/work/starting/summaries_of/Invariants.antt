use Rattle.std.proofs.Common.{◌≡◌, ℕ, Some, [], length}
use Rattle.std.specs.List.{slice_get}
use Rattle.host_track.specs.Summaries.{Shows}
use Rattle.host_track.specs.declared.summary.Summary.{Summary}
use Rattle.event_log.specs.Works.{known_at}
use Rattle.event_log.proofs.work.starting.summaries_of.Given as goal

abbrev pub invariant-loop-host : goal.invariant-loop-host
invariant-loop-host l =
    record {
      len : length l.summaries.items ≡ l.host-index;
      shows : (host : ℕ) (summary : Summary) → slice_get l.summaries.items host ≡ Some summary → Shows l.play (known_at l.vars host) [] summary;
    }
