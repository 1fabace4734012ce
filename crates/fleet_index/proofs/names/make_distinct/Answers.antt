use Rattle.std.proofs.lemmas.List.Filters.{dedup_is}
use Rattle.fleet_index.proofs.SortedNamesLemmas.{sorted_names-dedup}
use Rattle.fleet_index.proofs.names.make_distinct.Goals as goal

pub returns : goal.returns
returns c =
    record {
      ok = sorted_names-dedup c.args.names.now.items _ _ c.sort.ensures.permutation c.in_ok-sort.ensures.sorted (dedup_is _ _ _ c.dedup.ensures.filtered);
      err = tt;
    }
