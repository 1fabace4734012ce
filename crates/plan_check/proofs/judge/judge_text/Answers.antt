use Rattle.std.proofs.Common.{List, length, sym, subst, ap}
use Rattle.group_tree.specs.Names.{Name}
use Rattle.plan_check.specs.Inside.{AreNamedBatches}
use Rattle.plan_check.specs.Listings.{batches_of}
use Rattle.plan_check.specs.Names.{nobody_in}
use Rattle.plan_check.specs.Verdicts.{judged, verdict_by}
use Rattle.plan_check.specs.PlanErrors.{first_plan_error}
use Rattle.plan_check.specs.declared.naming.NamedBatches.{NamedBatches}
use Rattle.plan_check.proofs.VerdictLemmas.{known_told, same_ok}
use Rattle.plan_check.proofs.judge.judge_text.Goals as goal

pub returns-in-Batches : goal.returns-in-Batches
returns-in-Batches c =
    let fleet = c.args.fleet.now in
    let statuses = c.args.opening.now.statuses.items in
    let cap = c.args.opening.now.cap in
    let names : List (List Name) = batches_of c.args.text.now in
    let found = c.in-Batches.batches in
    let named = subst (λ (n : NamedBatches). AreNamedBatches fleet names n) c.in-Batches.is c.in_ok-batches.ensures in
    same_ok c.judge_batches.result (verdict_by (length found) c.args.least (first_plan_error fleet statuses cap found))
    (judged fleet statuses cap c.args.least names (nobody_in fleet names)) c.judge_batches.ensures
    (known_told fleet statuses cap c.args.least names found named.0 named.1)

pub returns-in-Nobody : goal.returns-in-Nobody
returns-in-Nobody c =
    let fleet = c.args.fleet.now in
    let names : List (List Name) = batches_of c.args.text.now in
    let named = subst (λ (n : NamedBatches). AreNamedBatches fleet names n) c.in-Nobody.is c.in_ok-batches.ensures in
    sym (ap (judged fleet c.args.opening.now.statuses.items c.args.opening.now.cap c.args.least names) named)
