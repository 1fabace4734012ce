use Rattle.inventory_read.proofs.MergeLaws.{keep}
use Rattle.inventory_read.proofs.laws.merged_lists_keep_every_entry.Goals as goal

pub returns : goal.returns
returns c = keep
