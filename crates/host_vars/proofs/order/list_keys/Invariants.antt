use Rattle.std.proofs.Common.{◌≡◌, All, map}
use Rattle.std.specs.List.{range_with_len}
use Rattle.domains.specs.Walked.{walked_groups}
use Rattle.host_vars.specs.Walked.{walked_at}
use Rattle.host_vars.proofs.OrderLemmas.{Key}
use Rattle.host_vars.proofs.order.list_keys.Given as goal

abbrev pub invariant-loop-number : goal.invariant-loop-number
invariant-loop-number g l =
    record {
      numbers : map (λ (key : Key). key.2) l.keys.items ≡ range_with_len 0 l.number;
      depths : All (λ (key : Key). key.0 ≡ (walked_at (walked_groups l.groups) key.2).1) l.keys.items;
      names : All (λ (key : Key). key.1.now ≡ (walked_at (walked_groups l.groups) key.2).0.name) l.keys.items;
    }
