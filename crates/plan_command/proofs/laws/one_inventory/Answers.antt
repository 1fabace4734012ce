use Rattle.plan_command.proofs.UniqueLemmas.{one_inventory}
use Rattle.plan_command.proofs.laws.one_inventory.Goals as goal

pub returns : goal.returns
returns c = one_inventory
