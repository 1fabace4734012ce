use Rattle.std.proofs.Common.{length, arith, refl, ◌∙◌}
use Rattle.std.proofs.lemmas.List.{length-set}
use Rattle.fleet_index.proofs.RunningCounts.{below_group, lowered_group, some_left_group}
use Rattle.fleet_index.proofs.counts.lower_counts.Goals as goal

pub offset_bounds-counts-group : goal.offset_bounds-counts-group
offset_bounds-counts-group c =
    omega (arith, below_group (length c.args.counts.now) c.args.groups.now c.loop-group.group-index (record { index = 0 }) c.requires.rising c.loop-group-test.true, c.loop-group.invariant.len)

pub bounds-counts-group : goal.bounds-counts-group
bounds-counts-group c =
    omega (arith, below_group (length c.args.counts.now) c.args.groups.now c.loop-group.group-index (record { index = 0 }) c.requires.rising c.loop-group-test.true, c.loop-group.invariant.len)

pub bounds-counts-group-in-loop-group : goal.bounds-counts-group-in-loop-group
bounds-counts-group-in-loop-group c =
    omega (arith, below_group (length c.args.counts.now) c.args.groups.now c.loop-group.group-index (record { index = 0 }) c.requires.rising c.loop-group-test.true, c.loop-group.invariant.len)

pub overflow_sub-counts : goal.overflow_sub-counts
overflow_sub-counts c =
    let counts = c.args.counts.now in
    let invariant = c.loop-group.invariant in
    some_left_group (length counts) c.args.groups.now c.loop-group.group-index (record { index = 0 }) c.requires.rising c.loop-group-test.true counts c.loop-group.counts invariant.len c.requires.some invariant.lowered

pub loop-group-preserved : goal.loop-group-preserved
loop-group-preserved c =
    let counts = c.args.counts.now in
    let groups = c.args.groups.now in
    let i = c.loop-group.group-index in
    let invariant = c.loop-group.invariant in
    let within = c.loop-group-test.true in
    let requires = c.requires in
    let now = c.loop-group.counts in
    let some = some_left_group (length counts) groups i (record { index = 0 }) requires.rising within counts now invariant.len requires.some invariant.lowered in
    let lowered = lowered_group (length counts) groups i (record { index = 0 }) requires.rising within counts now _ invariant.len refl some in
    record {
      len = length-set now _ _ ∙ invariant.len;
      lowered = λ group inside. lowered group (invariant.lowered group inside);
    }
