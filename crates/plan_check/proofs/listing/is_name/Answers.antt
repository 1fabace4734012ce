use Rattle.plan_check.proofs.ListingLemmas.{no_name}
use Rattle.plan_check.proofs.listing.is_name.Goals as goal

pub returns-in-Err : goal.returns-in-Err
returns-in-Err c = no_name c.args.word.now c.in-Err.ensures.cases.0
