use Rattle.std.proofs.Common.{◌≡◌, ◌++◌, map, take}
use Rattle.batch_plan.specs.Places.{AreCountsOf}
use Rattle.occupancy_table.specs.Columns.{counts_in, planned}
use Rattle.occupancy_table.proofs.CellLemmas.{behind}
use Rattle.occupancy_table.proofs.table.append_batches.Given as goal

abbrev pub invariant-loop-place : goal.invariant-loop-place
invariant-loop-place g l =
    record {
      statuses : l.statuses ≡ behind l.initial.statuses (take l.place l.batches);
      counts : AreCountsOf l.statuses l.domains;
      fleet : l.domains.fleet ≡ l.initial.domains.fleet;
      columns : map (λ column. column.items) l.columns.items
          ≡ map (λ column. column.items) l.initial.columns.items ++ map (counts_in l.initial.domains.fleet) (planned l.initial.statuses (take l.place l.batches));
    }
