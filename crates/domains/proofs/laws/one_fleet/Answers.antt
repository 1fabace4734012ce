use Rattle.domains.proofs.UniqueLemmas.{one_fleet}
use Rattle.domains.proofs.laws.one_fleet.Goals as goal

pub returns : goal.returns
returns c = one_fleet
