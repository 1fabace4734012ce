use Rattle.std.proofs.Common.{rules}
use Rattle.std.proofs.lemmas.List.Sorted.{IsPartitionPoint-from_clause}
use Rattle.host_vars.specs.Entries.{entry_name, is_up_to}
use Rattle.host_vars.proofs.TableLemmas.{up_to_first}
use Rattle.host_vars.proofs.table.count_up_to.Goals as goal

pub returns-clause-point : goal.returns-clause-point
returns-clause-point c =
    IsPartitionPoint-from_clause (is_up_to c.args.name.now) _ _ c.partition_point.ensures.partitioned (up_to_first entry_name c.args.name.now c.args.entries.now c.requires) (λ a r q k. search rules)
