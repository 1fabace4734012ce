use Rattle.std.proofs.Common.{◌≡◌, ◌∙◌, subst}
use Rattle.std.specs.Prelude.{IfOk}
use Rattle.host_track.specs.Hosts.{Known}
use Rattle.host_track.specs.Asking.{asks, asked_as}
use Rattle.host_track.specs.declared.step_request.StepRequest.{StepRequest}
use Rattle.host_track.proofs.summary.Summary.ask.Goals as goal

pub returns-clause-asked : goal.returns-clause-asked
returns-clause-asked c =
    λ play start entries shown. subst (λ (known : Known). IfOk c.ask.result (λ (asked : StepRequest). asked_as asked ≡ asks known c.args.step.now)) (c.reserve.ensures.known ∙ shown.known) c.ask.ensures
