use Rattle.std.proofs.Common.{◌≡◌, take, false}
use Rattle.std.specs.List.{list_any}
use Rattle.domains.specs.Ids.{group_numbers}
use Rattle.down_ledger.specs.Ledgers.{is_full}
use Rattle.down_ledger.proofs.ledger.DownLedger.first_full.Given as goal

abbrev pub invariant-loop-group : goal.invariant-loop-group
invariant-loop-group l =
    list_any (is_full l.self) (take l.group-index (group_numbers l.group-items)) ≡ false
