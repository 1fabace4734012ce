use Rattle.std.proofs.Common.{◌≡◌, ◌≤◌, length}
use Rattle.bounded_io.specs.Writing.{Writes}
use Rattle.domains.specs.FleetViews.{down_at_start}
use Rattle.recap.specs.LimitsTable.{lines_with}
use Rattle.json_output.specs.Arrays.{entries_text}
use Rattle.json_output.specs.LimitsJson.{limit_json}
use Rattle.json_output.proofs.limits.write_groups.Given as goal

abbrev pub invariant-loop-index : goal.invariant-loop-index
invariant-loop-index g l =
    record {
      written : Writes g.W.Write.contents l.initial.text l.text (entries_text (λ place line. limit_json line) (lines_with l.fleet (down_at_start l.fleet) l.index));
      limited : l.limited ≡ length (lines_with l.fleet (down_at_start l.fleet) l.index);
      few : l.limited ≤ l.index;
    }
