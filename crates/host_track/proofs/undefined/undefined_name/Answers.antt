use Rattle.std.proofs.Common.{ap, ◌∙◌}
use Rattle.host_track.specs.Endings.{ending_of}
use Rattle.host_track.specs.declared.trial.Trial.{Trial}
use Rattle.host_track.proofs.JudgingLemmas.{undefined_in_trial}
use Rattle.host_track.proofs.undefined.undefined_name.Goals as goal

pub returns-in-Ran : goal.returns-in-Ran
returns-in-Ran c =
    let trial : Trial = record { vars = c.args.vars; name = c.register_of.result; outcome = c.args.outcome } in
    c.undefined_to.ensures ∙ undefined_in_trial trial c.args.step.now _ _ _ c.register_of.ensures (ap ending_of c.in-Ran.is)
