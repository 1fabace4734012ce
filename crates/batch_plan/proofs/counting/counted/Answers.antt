use Rattle.std.proofs.Common.{length, ap, ◌∙◌, arith}
use Rattle.std.proofs.lemmas.List.{length-set}
use Rattle.batch_plan.specs.Counts.{Counted, place_at}
use Rattle.batch_plan.proofs.CountedLemmas.{all_places, same_counted, set_more}
use Rattle.batch_plan.proofs.counting.counted.Goals as goal

pub loop-index-preserved : goal.loop-index-preserved
loop-index-preserved g c =
    let domains = c.loop-index.domains in
    let statuses = c.args.statuses.now in
    let invariant = c.loop-index.invariant in
    let i = c.loop-index.index in
    let set_all = set_more domains.places statuses i c.place_of.result invariant.all_hosts c.loop-index-test.true c.place_of.ensures invariant.places in
    record {
      fleet = ap (λ (v : Counted). v.fleet) c.set.ensures.places ∙ invariant.fleet;
      all_hosts = ap (λ (v : Counted). length v.places) c.set.ensures.places ∙ length-set domains.places i c.place_of.result ∙ invariant.all_hosts;
      places = λ host l. ap (λ (v : Counted). place_at v.places host) c.set.ensures.places ∙ set_all host l;
    }

pub returns : goal.returns
returns g c =
    let invariant = c.loop-index.invariant in
    let all = all_places c.loop-index.domains.places c.args.statuses.now invariant.all_hosts (λ host l. invariant.places host (omega (arith, l))) in
    same_counted c.loop-index.domains c.args.fleet.now _ invariant.fleet all
