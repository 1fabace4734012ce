use Rattle.std.proofs.Common.{◌+◌, List, get_or, refl, subst, sym, take}
use Rattle.step_lints.specs.Inside.{AreMissed, missed_from}
use Rattle.step_lints.specs.declared.name_set.NameSet.{NameSet}
use Rattle.step_lints.proofs.AskedLemmas.{sets_more}
use Rattle.step_lints.proofs.undefined_reads.UndefinedReads.of.Goals as goal

pub loop-host-preserved : goal.loop-host-preserved
loop-host-preserved c =
    let waiting = c.args.crowd.lacks.now.waiting.now in
    let missed = missed_from c.args.stand c.args.crowd.lacks.now.vars.now in
    let place = c.loop-host.host-index in
    subst (λ (sets : List NameSet). AreMissed missed (take (place + 1) waiting) sets) (sym c.in_ok-push.ensures.items)
    (sets_more missed waiting c.loop-host.sets.items place c.in_ok-missed_on.field-0 (get_or waiting place 0) c.loop-host-test.true refl c.loop-host.invariant c.in_ok-missed_on.ensures)
