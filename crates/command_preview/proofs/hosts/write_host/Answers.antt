use Rattle.std.proofs.Common.{◌≡◌, List, get_or, ap, subst, ◌∙◌, arith}
use Rattle.std.specs.List.{list_any}
use Rattle.domains.specs.Numbered.{host_at}
use Rattle.group_tree.specs.Names.{Name}
use Rattle.host_vars.specs.HostVars.{variables_of}
use Rattle.host_vars.specs.declared.vars.Vars.{Vars}
use Rattle.host_vars.specs.Layers.{HostView}
use Rattle.command_preview.specs.Holes.{unsure_from}
use Rattle.command_preview.specs.Inside.{Tells, views_of}
use Rattle.command_preview.specs.Lines.{Line, fails, lines_of_host, lines_text, view_at}
use Rattle.command_preview.proofs.Waiting.{view_there}
use Rattle.command_preview.proofs.hosts.write_host.Goals as goal

pub returns : goal.returns
returns g c =
    let scene = c.args.scene.now in
    let host = c.args.host.index in
    let unsure = unsure_from scene.holes.now.names c.args.before in
    let one : Vars = get_or scene.vars.now host c.index-scene-host.result in
    let view = view_there scene.vars.now host c.index-scene-host.result (omega (arith, c.requires.all, c.requires.within)) in
    let same : lines_of_host unsure c.args.play.now c.name.result.now (variables_of one)
    ≡ lines_of_host unsure c.args.play.now (host_at scene.fleet.now.hosts host) (view_at (views_of scene.vars.now) host) =
    ap (λ (n : Name). lines_of_host unsure c.args.play.now n (variables_of one)) c.name.ensures
    ∙ ap (λ (v : HostView). lines_of_host unsure c.args.play.now (host_at scene.fleet.now.hosts host) v) view in
    subst (λ (l : List Line). Tells g.W.Write.contents c.args.text.now c.write_steps.new.text (lines_text l) (list_any fails l) c.write_steps.result) same c.write_steps.ensures
