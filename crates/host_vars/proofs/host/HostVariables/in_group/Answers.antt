use Rattle.std.proofs.Common.{◌≡◌, List, Global, ap, sym, ◌∙◌}
use Rattle.std.specs.List.{list_any}
use Rattle.std.specs.Arc.{arc_value}
use Rattle.std.specs.declared.sync.Arc.{Arc}
use Rattle.std.specs.declared.vec.Vec.{Vec}
use Rattle.group_tree.proofs.MemberLemmas.{list_any-map}
use Rattle.group_tree.specs.Names.{same_name}
use Rattle.host_vars.specs.Tables.{LayerView, layer_name, layer_view, layer_views}
use Rattle.host_vars.specs.declared.layer.Layer.{Layer}
use Rattle.host_vars.proofs.host.HostVariables.in_group.Goals as goal

pub returns : goal.returns
returns c =
    let layers = (arc_value c.args.self.now.layers).items in
    let name = c.args.group.now in
    let same : c.as_slice.result.now ≡ layers = c.as_slice.ensures.value ∙ ap (λ (list : Vec (Arc Layer Global) Global). list.items) c.deref.ensures in
    let views : List LayerView = layer_views layers in
    let names = list_any-map (same_name name) (λ (layer : LayerView). layer.name) views in
    c.names_group.ensures
    ∙ ap (list_any (λ layer. same_name name (layer_name layer))) same
    ∙ sym (names ∙ list_any-map (λ (layer : LayerView). same_name name layer.name) (λ layer. layer_view (arc_value layer)) layers)
