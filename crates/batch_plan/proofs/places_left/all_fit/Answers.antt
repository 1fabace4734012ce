use Rattle.std.proofs.Common.{◌<◌, ℕ, List, [], length, sym, ap, ◌∙◌, subst, arith}
use Rattle.std.proofs.lemmas.List.Sums.{AllPass-from_list_all}
use Rattle.fleet_index.specs.NumberLists.{are_below, list_at}
use Rattle.domains.specs.Ids.{host_numbers}
use Rattle.batch_plan.specs.Checks.{FitInto}
use Rattle.batch_plan.proofs.FittingLemmas.{holds_more}
use Rattle.batch_plan.proofs.places_left.all_fit.Goals as goal

pub fits-requires-clause-within : goal.fits-requires-clause-within
fits-requires-clause-within c =
    let batches = c.args.batches.now in
    let i = c.loop-place.place in
    let hosts = length c.args.fleet.now.hosts in
    let inside : i < length batches = omega arith in
    ap (are_below hosts) c.at.ensures ∙ AllPass-from_list_all (are_below hosts) batches c.requires.within i [] inside

pub returns-then-not-fits : goal.returns-then-not-fits
returns-then-not-fits c =
    let batches = c.args.batches.now in
    let chains = c.args.fleet.now.chains in
    let left = c.args.left.now in
    let i = c.loop-place.place in
    let inside : i < length batches = omega arith in
    let batch : List ℕ = host_numbers c.at.result.now in (
      λ e. absurd (cc),
      λ all. let own : FitInto chains left batch = subst (λ (b : List ℕ). FitInto chains left b) (sym c.at.ensures) (all i inside) in
          let told = c.fits.ensures.exact.1 (subst (λ (l : List ℕ). FitInto chains l batch) (sym c.loop-place.invariant.same) own) in
          absurd (cc),
    )

pub loop-place-preserved : goal.loop-place-preserved
loop-place-preserved c =
    let batches = c.args.batches.now in
    let chains = c.args.fleet.now.chains in
    let left = c.args.left.now in
    let i = c.loop-place.place in
    let invariant = c.loop-place.invariant in
    let batch : List ℕ = host_numbers c.at.result.now in
    let own : FitInto chains left batch = subst (λ (l : List ℕ). FitInto chains l batch) invariant.same (c.fits.ensures.exact.0 c.if-not-fits.false) in
    record {
      same = c.fits.ensures.back c.if-not-fits.false ∙ invariant.same;
      fit = holds_more (λ (place : ℕ). FitInto chains left (list_at batches place)) i invariant.fit (subst (λ (b : List ℕ). FitInto chains left b) c.at.ensures own);
    }
