use Rattle.std.proofs.Common.{List, ap, ◌∙◌}
use Rattle.play_model.specs.declared.play.Play.{Play}
use Rattle.result_dependencies.specs.Registers.{is_registered_in}
use Rattle.result_dependencies.specs.Needs.{needed_among}
use Rattle.result_dependencies.specs.Lookups.{has_gathered}
use Rattle.result_dependencies.proofs.Gathering.{by_names_before}
use Rattle.result_dependencies.proofs.needed.needed_result.Goals as goal

pub returns : goal.returns
returns c =
    let is_earlier = has_gathered c.in_ok-earlier.earlier in
    c.first_among.ensures ∙ ap (needed_among is_earlier) c.split.ensures.from
    ∙ by_names_before c.args.plays.now c.args.first is_earlier (λ name.
    c.in_ok-earlier.ensures name ∙ ap (λ (plays : List Play). is_registered_in plays name) c.split.ensures.before)
