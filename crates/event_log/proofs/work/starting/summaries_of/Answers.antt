use Rattle.std.proofs.Common.{◌+◌, length, ap, ◌∙◌, [], ◌∷◌, length-append}
use Rattle.std.specs.Arc.{arc_value}
use Rattle.event_log.proofs.StartLemmas.{shows_more}
use Rattle.event_log.proofs.work.starting.summaries_of.Goals as goal

pub loop-host-preserved : goal.loop-host-preserved
loop-host-preserved c =
    let grown = c.in_ok-push.ensures.items in
    record {
      len = ap length grown ∙ length-append c.loop-host.summaries.items (c.in_ok-new.field-0 ∷ []) ∙ ap (λ n. n + 1) c.loop-host.invariant.len;
      shows = shows_more (arc_value c.in_ok-registers.registers) c.args.play.now c.args.vars.now c.loop-host.summaries.items c.push.new.self.items
          c.loop-host.host-index c.host-item.result c.in_ok-begun.begun c.in_ok-new.field-0 c.loop-host.invariant.len c.loop-host.invariant.shows
          grown c.loop-host-test.true c.host-item.is c.in_ok-begun.ensures c.in_ok-new.ensures;
    }
