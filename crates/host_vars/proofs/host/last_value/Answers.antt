use Rattle.std.proofs.Common.{None, Some, Option, ap, sym, ◌∙◌}
use Rattle.std.specs.Arc.{arc_value}
use Rattle.group_tree.specs.Scalars.{lent_scalar}
use Rattle.group_tree.specs.Variables.{Scalar}
use Rattle.host_vars.specs.Tables.{layer_view}
use Rattle.host_vars.specs.declared.layer.Layer.{Layer}
use Rattle.host_vars.proofs.LayerLemmas.{last_before}
use Rattle.host_vars.proofs.host.last_value.Goals as goal

pub returns-in-Some-get : goal.returns-in-Some-get
returns-in-Some-get c =
    let name = c.args.name.now in
    let found : Option Scalar = Some (lent_scalar c.in-Some-get.value) in
    let here = c.in-Some-get.ensures ∙ ap (λ (layer : Layer). (layer_view layer).value name) c.deref.ensures in
    sym (last_before (λ layer. layer_view (arc_value layer)) name c.loop-layer.left.now c.in-Some.earlier.now c.in-Some.layer.now found c.in-Some.ensures.cases.0 here)
    ∙ c.loop-layer.invariant

pub loop-layer-preserved : goal.loop-layer-preserved
loop-layer-preserved c =
    let name = c.args.name.now in
    let here = c.in-None.ensures ∙ ap (λ (layer : Layer). (layer_view layer).value name) c.deref.ensures in
    sym (last_before (λ layer. layer_view (arc_value layer)) name c.loop-layer.left.now c.in-Some.earlier.now c.in-Some.layer.now None c.in-Some.ensures.cases.0 here)
    ∙ c.loop-layer.invariant
