-- What is told of a plan, as it is kept.
use Rattle.plan_check.specs.Verdicts as verdicts
use Rattle.plan_check.specs.declared.verdict.Verdict.{Verdict}
use Rattle.plan_check.specs.declared.verdict.Verdict.TheVariants as kept

abbrev pub shown : Verdict → verdicts.Verdict
shown (kept.Blocked group waiting) = verdicts.blocked group.index waiting
shown (kept.Nobody batch name) = verdicts.nobody (record { batch = batch; name = name.now })
shown (kept.Wrong wrong) = verdicts.wrong wrong
shown (kept.Valid batches least) = verdicts.valid batches least
