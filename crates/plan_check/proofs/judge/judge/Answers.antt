use Rattle.std.proofs.Common.{◌≡◌, ℕ, length, subst, ap, ◌∙◌}
use Rattle.std.specs.Prelude.{IfOk}
use Rattle.plan_check.specs.Listings.{batches_of}
use Rattle.plan_check.specs.Names.{nobody_in}
use Rattle.plan_check.specs.Shown.{shown}
use Rattle.plan_check.specs.Verdicts.{judged}
use Rattle.plan_check.proofs.OpeningLemmas.{first_long}
use Rattle.plan_check.proofs.VerdictLemmas.{planned_ok}
use Rattle.plan_check.proofs.judge.judge.Goals as goal

pub judge_text-requires-clause-all : goal.judge_text-requires-clause-all
judge_text-requires-clause-all c = ap length c.in_ok-opening.ensures.statuses ∙ first_long c.args.fleet.now c.args.play.now

pub returns-in-Planned : goal.returns-in-Planned
returns-in-Planned c =
    let fleet = c.args.fleet.now in
    let text = c.args.text.now in
    let opening = c.in_ok-opening.opening in
    planned_ok fleet c.args.play.now text opening c.in_ok-opening.ensures c.judge_text.result c.in-Planned.plan c.in-Planned.is
    (subst (λ (n : ℕ). IfOk c.judge_text.result (λ verdict. shown verdict ≡ judged fleet opening.statuses.items opening.cap n (batches_of text) (nobody_in fleet (batches_of text))))
    c.len-least.ensures c.judge_text.ensures)
