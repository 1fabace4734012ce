use Rattle.std.proofs.Common.{ℕ, ◌++◌, ◌∷◌, [], List, map, sym, ap, ◌∙◌, arith}
use Rattle.std.specs.List.{range_with_len}
use Rattle.std.proofs.lemmas.List.FromFn.{map-range_with_len_more}
use Rattle.down_ledger.specs.Ledgers.{LedgerView}
use Rattle.down_ledger.specs.Inside.{limited_count}
use Rattle.down_ledger.proofs.counting.list_counts.Goals as goal

pub loop-index-preserved : goal.loop-index-preserved
loop-index-preserved c =
    let ledger : LedgerView = record { fleet = c.args.fleet.now; down = c.args.marks.now } in
    let i : ℕ = c.loop-index.index in
    let listed : List ℕ = map (limited_count ledger) (range_with_len 0 i) in
    c.in_ok-push.ensures.items
    ∙ ap (λ (l : List ℕ). l ++ c.count_limited.result ∷ []) c.loop-index.invariant
    ∙ ap (λ (n : ℕ). listed ++ n ∷ []) c.count_limited.ensures
    ∙ sym (map-range_with_len_more (limited_count ledger) 0 i i (omega arith))
