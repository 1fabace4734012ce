use Rattle.inventory_read.proofs.MergeLaws.{keep_order}
use Rattle.inventory_read.proofs.laws.merged_lists_are_in_name_order.Goals as goal

pub returns : goal.returns
returns c = keep_order
