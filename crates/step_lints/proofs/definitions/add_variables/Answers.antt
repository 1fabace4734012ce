use Rattle.std.proofs.Common.{◌||◌, List, ap, ◌∙◌, take}
use Rattle.group_tree.specs.Names.{Name, same_name}
use Rattle.group_tree.specs.Variables.{Variable}
use Rattle.step_lints.specs.Given.{has_missed, is_named}
use Rattle.step_lints.proofs.AnyLemmas.{any_more, set_more}
use Rattle.step_lints.proofs.definitions.add_variables.Goals as goal

pub loop-variable-preserved : goal.loop-variable-preserved
loop-variable-preserved g c =
    let variables : List Variable = c.args.variables.now in
    let place = c.loop-variable.variable-index in
    let variable : Variable = c.variable-item.result in
    let before = c.loop-variable.given in
    λ name.
    set_more (has_missed c.add.new.self name) (has_missed before name) (has_missed c.args.given.now name) (is_named name (take place variables)) (same_name name variable.name) _
    (c.in_ok-add.ensures name ∙ ap (λ (n : Name). has_missed before name || same_name name n) c.name.ensures) (c.loop-variable.invariant name)
    (any_more (λ (v : Variable). same_name name v.name) variables place variable c.loop-variable-test.true c.variable-item.is)
