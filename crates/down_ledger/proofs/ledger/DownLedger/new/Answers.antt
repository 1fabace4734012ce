use Rattle.std.proofs.Common.{Bool, List, ap, ◌∙◌}
use Rattle.down_ledger.specs.Inside.{limited_counts}
use Rattle.down_ledger.proofs.LedgerLemmas.{starts_counted}
use Rattle.down_ledger.proofs.ledger.DownLedger.new.Goals as goal

pub invariant_of-result : goal.invariant_of-result
invariant_of-result c =
    let fleet = c.args.fleet.now in
    let counted = c.in_ok-counts.ensures.counts ∙ ap (λ (d : List Bool). limited_counts (record { fleet = fleet; down = d })) c.as_slice.ensures.value in
    starts_counted fleet c.args.statuses.now c.in_ok-marks.marks.items c.in_ok-counts.counts.items c.in_ok-counts.ensures.sound c.requires.all c.requires.safe c.in_ok-marks.ensures counted
