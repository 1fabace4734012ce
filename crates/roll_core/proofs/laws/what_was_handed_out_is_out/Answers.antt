use Rattle.roll_core.proofs.OutLaws.{handed_is_out}
use Rattle.roll_core.proofs.laws.what_was_handed_out_is_out.Goals as goal

pub returns : goal.returns
returns c = handed_is_out
