use Rattle.std.proofs.Common.{◌≡◌, ◌++◌, map, take}
use Rattle.occupancy_table.specs.Columns.{counts_in, counts_of}
use Rattle.plan_occupancy.specs.Surveys.{opened}
use Rattle.plan_occupancy.proofs.occupancy_report.append_opened.Given as goal

abbrev pub invariant-loop-boundary : goal.invariant-loop-boundary
invariant-loop-boundary l =
    record {
      groups : l.table.groups ≡ l.initial.table.groups;
      counts : counts_of l.table ≡ counts_of l.initial.table ++ map (counts_in l.fleet) (map opened (take l.boundary-index l.boundaries));
    }
