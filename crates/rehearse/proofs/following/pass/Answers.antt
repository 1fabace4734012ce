use Rattle.std.proofs.Common.{◌≡◌, ℕ, List, Option, length, sym, ap, ◌∙◌, subst}
use Rattle.std.specs.Option.{option_or}
use Rattle.fleet_states.specs.Batches.{fails_in}
use Rattle.play_model.specs.declared.step.Step.{Step}
use Rattle.rehearse.specs.Advances.{IsEndOfBatch}
use Rattle.rehearse.proofs.following.pass.Goals as goal

pub returns : goal.returns
returns c =
    let play = c.args.setting.now.play.now in
    let fails = fails_in c.args.setting.now.failing.now in
    let boundary = c.args.boundary.now in
    let statuses = c.in_ok-statuses.statuses.items in
    let ended = c.in_ok-statuses.before in
    let here = c.or.ensures ∙ ap (option_or c.args.before) c.end_without_batch.ensures in
    let same : IsEndOfBatch fails play.max_fail (length play.steps.items) boundary statuses ended =
    subst (λ (l : List Step). IsEndOfBatch fails play.max_fail (length l) boundary statuses ended) c.steps-steps.ensures.value
    (subst (λ (p : Option ℕ). IsEndOfBatch fails p (length c.steps-steps.result.now) boundary statuses ended) c.max_fail.ensures c.in_ok-statuses.ensures) in
    (sym here ∙ c.in_default.is, same.statuses_are, same.end_is)
