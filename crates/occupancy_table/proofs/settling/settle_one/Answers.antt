use Rattle.std.proofs.Common.{sym, ap, ◌∙◌, subst, set}
use Rattle.batch_plan.specs.Counts.{Counted, moved}
use Rattle.batch_plan.specs.declared.place.Place.{Place}
use Rattle.batch_plan.specs.Places.{AreCountsOf}
use Rattle.occupancy_table.proofs.CellLemmas.{one_host}
use Rattle.occupancy_table.proofs.settling.settle_one.Goals as goal

pub returns-then-host-statuses-clause-counts : goal.returns-then-host-statuses-clause-counts
returns-then-host-statuses-clause-counts g c =
    let host = c.args.host.index in
    let counted = c.args.domains.now in
    let is = c.set.ensures.places ∙ ap (λ (place : Place). moved counted host place) c.place_of.ensures in
    subst (λ (now : Counted). AreCountsOf (set c.args.statuses.now host c.args.status) now) (sym is) (one_host c.args.statuses.now counted host c.args.status c.requires.counts)
