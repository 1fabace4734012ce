use Rattle.std.proofs.Common.{◌≡◌, ◌<◌, ℕ, List, [], nat_eq, length, get_or, sym, ap, ◌∙◌, arith}
use Rattle.std.specs.List.{count_by}
use Rattle.std.proofs.lemmas.List.Sums.{sum_by_more}
use Rattle.domains.specs.Ids.{host_numbers}
use Rattle.batch_plan.proofs.marks.mark_all.Goals as goal

pub loop-place-preserved : goal.loop-place-preserved
loop-place-preserved c =
    let batches = c.args.batches.now in
    let i = c.loop-place.place in
    let invariant = c.loop-place.invariant in
    let inside : i < length batches = omega arith in
    let times : ℕ → List ℕ → ℕ = λ other (b : List ℕ). count_by (nat_eq other) b in
    let here : (other : ℕ) → times other (get_or batches i []) ≡ times other (host_numbers c.at.result.now) = λ other. ap (times other) (sym c.at.ensures) in
    record {
      len = c.mark_batch.ensures.len ∙ invariant.len;
      times = λ other l. omega
          (arith, here other, sum_by_more (times other) batches i [] inside, invariant.times other l, c.mark_batch.ensures.times other (omega (arith, l, invariant.len)));
    }
