use Rattle.std.proofs.Common.{◌≡◌, ◌<◌, Some, None, length, get_or, sym, arith, rules}
use Rattle.batch_plan.proofs.GrowLemmas.{depth_none, depth_more, depth_small}
use Rattle.batch_plan.proofs.shape.+depth_of.Goals as goal

pub depth_of-requires : goal.depth_of-requires
depth_of-requires t c =
    let less : c.in-Some.parent.index < c.args.group.index = c.in-Some.ensures.before in
    let inside : c.in-Some.parent.index < length c.args.fleet.now.groups = omega (arith, less, c.requires.within) in
    let sound = c.requires.sound in
    search rules

pub overflow_add-result : goal.overflow_add-result
overflow_add-result t c =
    let is : get_or c.args.fleet.now.parents c.args.group.index None ≡ Some c.in-Some.parent.index = sym c.in-Some.ensures.index in
    omega (
      arith,
      depth_more c.args.fleet.now c.requires.sound c.args.group.index c.in-Some.parent.index is,
      depth_small c.args.fleet.now c.args.group.index,
      c.depth_of.ensures,
      c.limit_count.ensures,
      c.requires.within,
      c.requires.sound.few_groups,
    )

pub returns-in-Some : goal.returns-in-Some
returns-in-Some t c =
    let is : get_or c.args.fleet.now.parents c.args.group.index None ≡ Some c.in-Some.parent.index = sym c.in-Some.ensures.index in
    omega (arith, depth_more c.args.fleet.now c.requires.sound c.args.group.index c.in-Some.parent.index is, c.depth_of.ensures, c.limit_count.ensures)

pub returns-in-None : goal.returns-in-None
returns-in-None t c =
    sym (depth_none c.args.fleet.now c.requires.sound c.args.group.index (sym c.in-None.ensures.index))
