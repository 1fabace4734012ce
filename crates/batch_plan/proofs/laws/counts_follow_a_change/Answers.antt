use Rattle.batch_plan.proofs.FollowLemmas.{counts_follow}
use Rattle.batch_plan.proofs.laws.counts_follow_a_change.Goals as goal

pub returns : goal.returns
returns c = counts_follow
