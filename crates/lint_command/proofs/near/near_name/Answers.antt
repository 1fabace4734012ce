use Rattle.std.proofs.Common.{ap, ◌∙◌}
use Rattle.step_lints.specs.Inside.{names_of}
use Rattle.name_suggestions.specs.Nearness.{nearest_of}
use Rattle.lint_command.proofs.SameLemmas.{if_ok_same}
use Rattle.lint_command.proofs.near.near_name.Goals as goal

pub returns : goal.returns
returns c =
    if_ok_same c.nearest.result _ _ c.nearest.ensures (λ near is. is ∙ ap (nearest_of c.args.name.now) (ap names_of c.as_slice.ensures.value ∙ c.in_ok-others.ensures))
