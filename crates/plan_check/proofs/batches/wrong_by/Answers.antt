use Rattle.std.proofs.Common.{false}
use Rattle.plan_check.proofs.JudgeLemmas.{front_same}
use Rattle.plan_check.proofs.batches.wrong_by.Goals as goal

pub wrong_from-requires-clause-none : goal.wrong_from-requires-clause-none
wrong_from-requires-clause-none c host within = front_same false false c.hosts-hosts.result 4096 host within
