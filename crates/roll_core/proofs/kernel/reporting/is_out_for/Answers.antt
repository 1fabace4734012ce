use Rattle.std.proofs.Common.{sym, ap, ◌∙◌}
use Rattle.roll_core.specs.Ways.{Completed}
use Rattle.roll_core.proofs.StepLemmas.{out_decides}
use Rattle.roll_core.proofs.kernel.reporting.is_out_for.Goals as goal

pub returns-then-step-completion : goal.returns-then-step-completion
returns-then-step-completion c =
    let same = c.if-step-completion.true ∙ ap (λ (v : Completed). v.step) c.completion.view_is in
    λ roll state is. out_decides roll state c.args.work.now is c.in-Working.step (sym c.stage.ensures ∙ c.in-Working.is) c.args.completion.now c.is_given.result same c.is_given.ensures
