use Rattle.std.proofs.Common.{ap, ◌∙◌, length}
use Rattle.domains.specs.Ids.{host_numbers}
use Rattle.batch_plan.proofs.BeginningLemmas.{length-restart_statuses}
use Rattle.rehearse.proofs.courses.follow_after.Goals as goal

pub follow_for-requires-clause-all : goal.follow_for-requires-clause-all
follow_for-requires-clause-all c =
    ap length c.in_ok-statuses.ensures.statuses ∙ length-restart_statuses c.args.before.now (host_numbers c.as_slice.result.now) ∙ c.requires.all
