use Rattle.domains.specs.Ids.{host_numbers}
use Rattle.occupancy_table.specs.Columns.{Column}
use Rattle.occupancy_table.proofs.CellLemmas.{column_stands, if_ok}
use Rattle.occupancy_table.proofs.table.run_batch.Goals as goal

pub returns-clause-counted : goal.returns-clause-counted
returns-clause-counted g c =
    let column : Column = record { before = c.args.statuses.now; batch = host_numbers c.args.batch.now } in
    if_ok c.list_down.result
    (λ counts. column_stands c.args.domains.now.fleet column c.settle.new.statuses c.settle.new.domains counts.items c.settle.ensures.counts c.settle.ensures.statuses c.settle.ensures.fleet)
    c.list_down.ensures
