use Rattle.std.proofs.Common.{is_some, ap}
use Rattle.fleet_index.specs.NumberLists.{bit}
use Rattle.batch_plan.proofs.shape.limit_count.Goals as goal

pub returns-in-Some : goal.returns-in-Some
returns-in-Some c = ap (λ o. bit (is_some o)) c.in-Some.ensures

pub returns-in-None : goal.returns-in-None
returns-in-None c = ap (λ o. bit (is_some o)) c.in-None.ensures
