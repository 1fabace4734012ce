use Rattle.std.proofs.Common.{◌≡◌, ◌+◌, Bool, List, ◌∷◌, drop, sym, ap, ◌∙◌}
use Rattle.std.proofs.Math.Path.{fun_ext}
use Rattle.std.proofs.lemmas.List.{drop_more}
use Rattle.group_tree.specs.Names.{Name}
use Rattle.play_model.specs.declared.step.Step.{Step}
use Rattle.step_lints.specs.Differing.{varied_after, varied_with}
use Rattle.step_lints.specs.Hosts.{are_several}
use Rattle.step_lints.specs.Inside.{has_name, varies_in}
use Rattle.step_lints.specs.declared.registered.Registered.{Registered}
use Rattle.step_lints.proofs.differing.Results.add_all.Goals as goal

pub loop-step-preserved : goal.loop-step-preserved
loop-step-preserved c =
    let several = are_several c.args.lacks.now.waiting.now in
    let varies = varies_in c.args.lacks.now in
    let first = c.args.self.now.own in
    let mid = c.loop-step.self in
    let steps = c.args.steps.now in
    let step : Step = c.step-item.result in
    let rest : List Step = drop (c.loop-step.step-index + 1) steps in
    let here : drop c.loop-step.step-index steps ≡ step ∷ rest =
    drop_more steps c.loop-step.step-index step c.loop-step-test.true ∙ ap (λ (s : Step). s ∷ rest) (sym c.step-item.is) in
    let same : mid.own ≡ first = c.loop-step.invariant.0 in
    let added : has_name c.add.new.self.varied ≡ varied_with several (has_name first) varies (has_name mid.varied) step =
    fun_ext (λ name. c.in_ok-add.ensures.varied name ∙ ap (λ (own : Registered). varied_with several (has_name own) varies (has_name mid.varied) step name) same) in (
      c.in_ok-add.ensures.own ∙ same,
      λ name. ap (λ (varied : Name → Bool). varied_after several (has_name first) varies varied rest name) added
          ∙ ap (λ (l : List Step). varied_after several (has_name first) varies (has_name mid.varied) l name) (sym here) ∙ c.loop-step.invariant.1 name,
    )
