use Rattle.std.proofs.Common.{◌≡◌, ℕ, ◌<◌, List, cond, nat_eq, length, get_or, ap, ◌∙◌, arith}
use Rattle.std.proofs.lemmas.List.Sums.{sum_by_more}
use Rattle.group_tree.specs.declared.ids.HostId.{HostId}
use Rattle.domains.specs.Ids.{host_numbers}
use Rattle.fleet_states.proofs.HostLemmas.{length-host_numbers, number_of_host}
use Rattle.batch_plan.proofs.marks.mark_batch.Goals as goal

pub loop-host-preserved : goal.loop-host-preserved
loop-host-preserved c =
    let batch = c.args.batch.now in
    let xs : List ℕ = host_numbers batch in
    let i = c.loop-host.host-index in
    let none : HostId = record { index = 0 } in
    let invariant = c.loop-host.invariant in
    let inside : i < length xs = omega (arith, c.loop-host-test.true, length-host_numbers batch) in
    let bit_of : ℕ → ℕ → ℕ = λ other host. cond (nat_eq other host) 1 0 in
    let here : (other : ℕ) → bit_of other (get_or xs i 0) ≡ bit_of other (get_or batch i none).index = λ other. ap (bit_of other) (number_of_host batch i none c.loop-host-test.true) in
    record {
      len = c.mark_host.ensures.len ∙ invariant.len;
      times = λ other l. omega
          (arith, here other, sum_by_more (bit_of other) xs i 0 inside, invariant.times other l, c.mark_host.ensures.times other (omega (arith, l, invariant.len)));
    }
