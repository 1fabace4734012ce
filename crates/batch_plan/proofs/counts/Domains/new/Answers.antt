use Rattle.std.proofs.Common.{◌≡◌, replicate}
use Rattle.batch_plan.specs.declared.place.Place.TheVariants.{Up}
use Rattle.batch_plan.proofs.GrowLemmas.{starts_counted}
use Rattle.batch_plan.proofs.counts.Domains.new.Goals as goal

pub invariant_of-result : goal.invariant_of-result
invariant_of-result g c =
    let places : c.in_ok-places.places.items ≡ replicate c.hosts.result Up = c.in_ok-places.ensures.items_if_clones_equal (λ y same. same) in
    starts_counted c.args.fleet.now c.in_ok-places.places.items c.in_ok-tops.tops.items c.hosts.result c.hosts.ensures.sound c.hosts.ensures.count places c.in_ok-tops.ensures
