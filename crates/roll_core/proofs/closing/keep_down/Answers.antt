use Rattle.roll_core.proofs.ClosingLemmas.{kept_down}
use Rattle.roll_core.proofs.closing.keep_down.Goals as goal

pub returns : goal.returns
returns c =
    kept_down c.args.roster.now c.lend-share.new.self c.rest.new.self c.keep_down.new.self c.lend-share.result.host c.args.host c.args.status
    c.lend-share.ensures.rest c.lend-share.ensures.share c.rest.ensures c.keep_down.ensures
