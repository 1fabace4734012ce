use Rattle.std.proofs.Common.{sym, refl, subst, []}
use Rattle.play_model.specs.declared.play.Play.{Play}
use Rattle.event_log.specs.Works.{ShowEach, known_at}
use Rattle.event_log.proofs.BatchLemmas.{work_starts}
use Rattle.event_log.proofs.work.BatchWork.new.Goals as goal

pub returns : goal.returns
returns c =
    λ roll play hosts known.
    let shows = subst (λ (p : Play). ShowEach p (known_at c.args.vars.now) (λ host. []) c.in_ok-summaries.summaries.items) (sym play) c.in_ok-summaries.ensures.show in
    work_starts roll c.args.vars.now _ (sym play) hosts known c.in_ok-summaries.ensures.all shows c.in_ok-turns.ensures refl c.new-2.ensures.items c.new-3.ensures.items refl
