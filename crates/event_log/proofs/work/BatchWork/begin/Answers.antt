use Rattle.std.proofs.Common.{sym, refl, arith}
use Rattle.std.proofs.lemmas.List.{with_items_is}
use Rattle.domains.specs.Ids.{host_numbers}
use Rattle.event_log.proofs.BatchLemmas.{work_begun}
use Rattle.event_log.proofs.DueLemmas.{lined_alike, some_step}
use Rattle.event_log.proofs.LineUpLemmas.{lined_moved}
use Rattle.event_log.proofs.work.BatchWork.begin.Goals as goal

pub returns : goal.returns
returns c =
    let old = c.args.self.now in
    let turns = with_items_is old.turns c.enqueue_due-self.new.turns (omega (arith, c.enqueue_due-self.ensures.all, c.as_mut_slice-2.ensures.len)) in
    let line = with_items_is c.args.line c.enqueue_due-self.new.line (omega (arith, c.enqueue_due-self.ensures.places, c.as_mut_slice.ensures.len)) in
    let lined = lined_moved old.play.now 0 _ old.summaries.items _ c.args.batch.items _ old.turns.items _ _ _ _ c.enqueue_due-self.result
    c.as_slice.ensures.value c.as_slice-2.ensures.value c.as_mut_slice-2.ensures.value (sym turns) (sym line) c.enqueue_due-self.ensures.due in
    λ roll state work at fresh.
    work_begun roll state old _ (host_numbers c.args.batch.items) work (record { play = refl; summaries = refl; out = refl }) at fresh refl refl
    (lined_alike roll state old work 0 (host_numbers c.args.batch.items) old.turns.items _ _ (some_step roll.play) c.requires.within lined)
