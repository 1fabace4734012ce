use Rattle.std.proofs.Common.{◌+◌, length, refl, subst, arith}
use Rattle.batch_plan.specs.Needs.{Needs, serial_need}
use Rattle.batch_plan.specs.Inside.{IsBestBefore}
use Rattle.batch_plan.proofs.NamingLemmas.{named_bound, one_host}
use Rattle.batch_plan.proofs.naming.name_bound.Goals as goal

pub returns : goal.returns
returns c =
    let needs : Needs = record { groups = c.args.needs.now; serial = serial_need c.args.waiting c.args.cap; waiting = c.args.waiting } in
    let groups = c.best_of_groups.ensures needs refl in
    let serial = c.with_serial-best.ensures needs refl groups in
    let one = c.better.ensures needs (length needs.groups + 1) serial (one_host needs _ (omega arith) (omega arith) (λ some. omega arith)) in
    named_bound needs c.better.result.count c.better.result.bound (subst (λ n. IsBestBefore needs n c.better.result.count c.better.result.bound) (omega arith) one)
