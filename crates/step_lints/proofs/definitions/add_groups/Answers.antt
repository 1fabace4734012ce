use Rattle.std.proofs.Common.{◌<◌, length, take, arith}
use Rattle.std.specs.List.{list_any}
use Rattle.step_lints.specs.Given.{has_missed, group_gives}
use Rattle.step_lints.proofs.AnyLemmas.{any_more, set_more}
use Rattle.step_lints.proofs.definitions.add_groups.Goals as goal

pub loop-walked-preserved : goal.loop-walked-preserved
loop-walked-preserved g c =
    let groups = c.args.groups.now in
    let place = c.loop-walked.walked-index in
    let walked = c.walked-item.result in
    let before = c.loop-walked.given in
    let within : place < length groups = omega (arith, c.loop-walked-test.true, c.loop-walked.auto.walked-index-end) in
    λ name.
    set_more (has_missed c.add_group.new.given name) (has_missed before name) (has_missed c.args.given.now name) (list_any (λ w. group_gives name w.group.now) (take place groups))
    (group_gives name walked.group.now) _ (c.in_ok-add_group.ensures name) (c.loop-walked.invariant name) (any_more (λ w. group_gives name w.group.now) groups place walked within c.walked-item.is)
