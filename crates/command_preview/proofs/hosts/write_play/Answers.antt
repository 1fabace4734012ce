use Rattle.std.proofs.Common.{◌≡◌, ◌<◌, ◌≤◌, ℕ, List, length, get_or, sym, ap, subst, ◌∙◌, arith}
use Rattle.std.proofs.lemmas.List.{get_or-map, length-map, take_all}
use Rattle.std.proofs.lemmas.Result.{err_from_is_err_and}
use Rattle.std.specs.List.{list_any}
use Rattle.bounded_io.specs.Writing.{Writes}
use Rattle.domains.specs.Ids.{host_numbers}
use Rattle.domains.specs.Numbered.{host_at}
use Rattle.group_tree.specs.declared.ids.HostId.{HostId}
use Rattle.recap.specs.RecapText.{text_by_place}
use Rattle.command_preview.specs.Holes.{unsure_from}
use Rattle.command_preview.specs.Inside.{WritesFront, told_by, views_of}
use Rattle.command_preview.specs.Lines.{Line, fails, hosts_of, line_text, lines_of_host, lines_text, view_at}
use Rattle.command_preview.proofs.Places.{any_in_lists, pieces_of_lists}
use Rattle.command_preview.proofs.Telling.{front_here, one_more, told_more}
use Rattle.command_preview.proofs.hosts.write_play.Goals as goal

pub loop-host-preserved : goal.loop-host-preserved
loop-host-preserved g c =
    let scene = c.args.scene.now in
    let lines : ℕ → List Line =
    λ host. lines_of_host (unsure_from scene.holes.now.names c.args.before) c.args.play.now (host_at scene.fleet.now.hosts host) (view_at (views_of scene.vars.now) host) in
    let items = c.deref-host-items.result.now in
    let contents = g.W.Write.contents in
    let given = c.loop-host.text in
    let new = c.write_host.new.text in
    let piece : ℕ → ℕ → List ℕ = λ place host. lines_text (lines host) in
    let i : ℕ = c.loop-host.host-index in
    let host : ℕ = (get_or items i (record { index = 0 })).index in
    let low : i < length items = c.loop-host-test.true in
    let within : i < length (host_numbers items) = omega (arith, low, length-map items (λ (h : HostId). h.index)) in
    let is : host ≡ get_or (host_numbers items) i host = sym (get_or-map (λ (h : HostId). h.index) items i (record { index = 0 }) host low) in
    record {
      written = one_more contents c.args.text.now given new piece (host_numbers items) i host within is c.loop-host.invariant.written c.in_ok-fails.ensures.0;
      told = told_more (λ place host. list_any fails (lines host)) (host_numbers items) i host c.loop-host.fails c.in_ok-fails.field-0 within is c.loop-host.invariant.told c.in_ok-fails.ensures.1;
    }

pub returns-in_err-fails : goal.returns-in_err-fails
returns-in_err-fails g c =
    let scene = c.args.scene.now in
    let lines : ℕ → List Line =
    λ host. lines_of_host (unsure_from scene.holes.now.names c.args.before) c.args.play.now (host_at scene.fleet.now.hosts host) (view_at (views_of scene.vars.now) host) in
    let items = c.deref-host-items.result.now in
    let contents = g.W.Write.contents in
    let given = c.loop-host.text in
    let new = c.write_host.new.text in
    let piece : ℕ → ℕ → List ℕ = λ place host. lines_text (lines host) in
    let i : ℕ = c.loop-host.host-index in
    let host : ℕ = (get_or items i (record { index = 0 })).index in
    let low : i < length items = c.loop-host-test.true in
    let within : i < length (host_numbers items) = omega (arith, low, length-map items (λ (h : HostId). h.index)) in
    let is : host ≡ get_or (host_numbers items) i host = sym (get_or-map (λ (h : HostId). h.index) items i (record { index = 0 }) host low) in
    let front = front_here contents c.args.text.now given new piece (host_numbers items) i host within is c.loop-host.invariant.written c.in_err-fails.ensures in
    let hosts : host_numbers items ≡ hosts_of scene.fleet.now c.args.play.now = ap host_numbers c.deref-host-items.ensures.value ∙ c.in_ok-hosts.ensures.are in
    let whole = ap (text_by_place (λ place host. lines_text (lines host)) 0) hosts ∙ sym (pieces_of_lists line_text lines 0 (hosts_of scene.fleet.now c.args.play.now)) in
    let all = subst (WritesFront contents c.args.text.now new) whole front in
    let p = err_from_is_err_and c.from_residual-in_err-fails.result c.from_residual-in_err-fails.ensures.1 in rw p.1 all

pub returns : goal.returns
returns g c =
    let scene = c.args.scene.now in
    let lines : ℕ → List Line =
    λ host. lines_of_host (unsure_from scene.holes.now.names c.args.before) c.args.play.now (host_at scene.fleet.now.hosts host) (view_at (views_of scene.vars.now) host) in
    let items = c.deref-host-items.result.now in
    let hosts : host_numbers items ≡ hosts_of scene.fleet.now c.args.play.now = ap host_numbers c.deref-host-items.ensures.value ∙ c.in_ok-hosts.ensures.are in
    let low : length (host_numbers items) ≤ c.loop-host.host-index = omega (arith, c.loop-host-test.false, length-map items (λ (h : HostId). h.index)) in
    let all = take_all c.loop-host.host-index (host_numbers items) low ∙ hosts in (
      subst (λ (l : List ℕ). Writes g.W.Write.contents c.args.text.now c.loop-host.text l)
          (ap (text_by_place (λ place host. lines_text (lines host)) 0) all ∙ sym (pieces_of_lists line_text lines 0 (hosts_of scene.fleet.now c.args.play.now))) c.loop-host.invariant.written,
      c.loop-host.invariant.told ∙ ap (told_by (λ place host. list_any fails (lines host)) 0) all ∙ sym (any_in_lists fails lines 0 (hosts_of scene.fleet.now c.args.play.now)),
    )
