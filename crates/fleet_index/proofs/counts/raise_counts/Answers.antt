use Rattle.std.proofs.Common.{length, arith, refl, ◌∙◌}
use Rattle.std.proofs.lemmas.List.{length-set}
use Rattle.fleet_index.proofs.RunningCounts.{below_group, raised_group}
use Rattle.fleet_index.proofs.counts.raise_counts.Goals as goal

pub offset_bounds-counts-group : goal.offset_bounds-counts-group
offset_bounds-counts-group c =
    omega (arith, below_group (length c.args.counts.now) c.args.groups.now c.loop-group.group-index (record { index = 0 }) c.requires.rising c.loop-group-test.true, c.loop-group.invariant.len)

pub bounds-counts-group : goal.bounds-counts-group
bounds-counts-group c =
    omega (arith, below_group (length c.args.counts.now) c.args.groups.now c.loop-group.group-index (record { index = 0 }) c.requires.rising c.loop-group-test.true, c.loop-group.invariant.len)

pub bounds-counts-group-in-loop-group : goal.bounds-counts-group-in-loop-group
bounds-counts-group-in-loop-group c =
    omega (arith, below_group (length c.args.counts.now) c.args.groups.now c.loop-group.group-index (record { index = 0 }) c.requires.rising c.loop-group-test.true, c.loop-group.invariant.len)

pub loop-group-preserved : goal.loop-group-preserved
loop-group-preserved c =
    let counts = c.args.counts.now in
    let now = c.loop-group.counts in
    let invariant = c.loop-group.invariant in
    let raised = raised_group (length counts) c.args.groups.now c.loop-group.group-index (record { index = 0 }) c.requires.rising c.loop-group-test.true counts now _ invariant.len refl in
    record {
      len = length-set now _ _ ∙ invariant.len;
      raised = λ group inside. raised group (invariant.raised group inside);
    }
