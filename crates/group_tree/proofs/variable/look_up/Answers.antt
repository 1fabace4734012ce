use Rattle.std.specs.Option.{option_map}
use Rattle.group_tree.proofs.LookUps.{value_of-takes, value_of-passes}
use Rattle.group_tree.specs.Scalars.{lent_scalar}
use Rattle.group_tree.proofs.variable.look_up.Goals.{then-eq, else-eq}
use Rattle.group_tree.proofs.variable.look_up.Goals as goal

pub loop-variable-preserved : goal.loop-variable-preserved
loop-variable-preserved g c =
    let before = option_map lent_scalar c.loop-variable.found in
    let takes = value_of-takes c.args.name.now c.args.variables.now c.loop-variable.variable-index c.variable-item.result before c.loop-variable-test.true c.variable-item.is in
    let passes = value_of-passes c.args.name.now c.args.variables.now c.loop-variable.variable-index c.variable-item.result before c.loop-variable-test.true c.variable-item.is in
    elim c.if-eq.branch [ then-eq w ↦ rw w.found-is (let e = takes (cc) in cc) | else-eq w ↦ rw w.found-is (let e = passes (cc) in cc) ]
