use Rattle.std.proofs.Common.{◌<◌, length, get_or, refl, ◌∙◌, arith}
use Rattle.std.proofs.lemmas.List.{length-set}
use Rattle.group_tree.specs.declared.ids.GroupId.{GroupId}
use Rattle.fleet_index.proofs.RunningCounts.{below_group, lowered_group, some_left_group}
use Rattle.batch_plan.proofs.places_left.take.Goals as goal

pub offset_bounds-left-group : goal.offset_bounds-left-group
offset_bounds-left-group c =
    omega (arith, below_group (length c.args.left.now) c.args.chain.now c.loop-group.group-index (record { index = 0 }) c.requires c.loop-group-test.true, c.loop-group.invariant.len)

pub bounds-left-group : goal.bounds-left-group
bounds-left-group c =
    omega (arith, below_group (length c.args.left.now) c.args.chain.now c.loop-group.group-index (record { index = 0 }) c.requires c.loop-group-test.true, c.loop-group.invariant.len)

pub returns-then-left-group-eq0-clause-enough : goal.returns-then-left-group-eq0-clause-enough
returns-then-left-group-eq0-clause-enough c positive =
    let left = c.args.left.now in
    let invariant = c.loop-group.invariant in
    let some = some_left_group (length left) c.args.chain.now c.loop-group.group-index (record { index = 0 }) c.requires c.loop-group-test.true left
    c.loop-group.left invariant.len positive invariant.taken in
    absurd (omega (arith, some))

pub loop-group-preserved : goal.loop-group-preserved
loop-group-preserved c =
    let left = c.args.left.now in
    let chain = c.args.chain.now in
    let i = c.loop-group.group-index in
    let none : GroupId = record { index = 0 } in
    let invariant = c.loop-group.invariant in
    let now = c.loop-group.left in
    let some : 0 < get_or now (get_or chain i none).index 0 = omega arith in
    let taken = lowered_group (length left) chain i none c.requires c.loop-group-test.true left now _ invariant.len refl some in
    record {
      len = length-set now _ _ ∙ invariant.len;
      taken = λ group inside. taken group (invariant.taken group inside);
    }
