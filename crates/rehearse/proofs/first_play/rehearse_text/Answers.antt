use Rattle.std.proofs.Common.{◌≡◌, List, sym, ap, ◌∙◌, subst}
use Rattle.std.specs.Prelude.{IfErr, IfOk}
use Rattle.fleet_states.specs.Starts.{start_statuses}
use Rattle.fleet_states.specs.declared.status.Status.{Status}
use Rattle.play_forecast.specs.PlayPlans.{targets}
use Rattle.play_model.specs.declared.play.Play.{Play}
use Rattle.rehearse.proofs.OpeningLemmas.{first_at, rehearses_first, told_first}
use Rattle.rehearse.specs.Tellings.{telling_of}
use Rattle.rehearse.specs.Openings.{IsFirstPlay}
use Rattle.rehearse.proofs.first_play.rehearse_text.Goals as goal

pub returns-clause-ok : goal.returns-clause-ok
returns-clause-ok g c =
    let read = c.in-Ok.first in
    let first = c.in-Ok.ensures.ok in
    let at = first_at c.args.inventory.now c.args.playbook.now read first c.index.result.now c.index.ensures in
    rehearses_first (telling_of c.args.form) (g.I.Input.is_reliable c.args.input.now) read.fleet c.index.result.now c.as_slice.result.now _ _ _ _ c.args.inventory.now c.args.playbook.now at.0 (c.as_slice.ensures.value ∙ at.1)
    c.rehearse_play.result c.rehearse_play.ensures.ok

pub returns-clause-err : goal.returns-clause-err
returns-clause-err g c =
    let read = c.in-Ok.first in
    let first = c.in-Ok.ensures.ok in
    let at = first_at c.args.inventory.now c.args.playbook.now read first c.index.result.now c.index.ensures in
    told_first (telling_of c.args.form) (g.I.Input.is_reliable c.args.input.now) read.fleet c.index.result.now c.as_slice.result.now _ _ _ _ c.args.inventory.now c.args.playbook.now at.0 (c.as_slice.ensures.value ∙ at.1)
    c.rehearse_play.result c.rehearse_play.ensures.err
