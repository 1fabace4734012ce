use Rattle.std.proofs.Common.{refl}
use Rattle.event_log.proofs.BatchLemmas.{work_left}
use Rattle.event_log.proofs.work.BatchWork.end.Goals as goal

pub returns : goal.returns
returns c =
    λ roll state halt work at nobody.
    work_left roll state c.args.self.now _ halt work (record { play = refl; summaries = refl; out = refl }) at refl refl c.clear.ensures.items c.clear-2.ensures.items
