use Rattle.std.proofs.Common.{◌≡◌, ℕ, ◌<◌, ◌≤◌, Bool, true, false, List, cond, length, get_or, replicate, arith}
use Rattle.std.proofs.lemmas.List.{get_or-replicate, length-replicate}
use Rattle.fleet_states.specs.Statuses.{is_waiting, status_at}
use Rattle.batch_plan.proofs.marks.stand_once.Goals as goal

few : (b : Bool) → cond b 1 0 ≤ 1
few true = omega arith
few false = omega arith

abbrev zeros : ℕ → List ℕ
zeros count = replicate count 0

zero_at : (count host : ℕ) → host < count → get_or (zeros count) host 0 ≡ 0
zero_at count host l = get_or-replicate count host 0 0 l

length_zeros : (count : ℕ) → length (zeros count) ≡ count
length_zeros count = length-replicate count 0

pub returns : goal.returns
returns c =
    let inside : (host : ℕ) → host < length c.args.statuses.now → host < 4096 = λ host l. omega (arith, l) in
    let once : (host : ℕ) → cond (is_waiting (status_at c.args.statuses.now host)) 1 0 ≤ 1 = λ host. few (is_waiting (status_at c.args.statuses.now host)) in (
      λ e host l. omega
          (arith, zero_at 4096 host (inside host l), once host, c.are_as_due.ensures.0 e host l, c.mark_all.ensures.times host (omega (arith, inside host l, length_zeros 4096))),
      λ stand. c.are_as_due.ensures.1
          (λ host l. omega (arith, zero_at 4096 host (inside host l), once host, stand host l, c.mark_all.ensures.times host (omega (arith, inside host l, length_zeros 4096)))),
    )
