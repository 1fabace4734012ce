use Rattle.std.proofs.Common.{◌≡◌, ◌++◌, ◌∷◌, [], List, Some, ap, ◌∙◌, subst, sym}
use Rattle.std.specs.Prelude.{IfErr, IfOk}
use Rattle.domains.specs.FleetViews.{FleetView}
use Rattle.fleet_states.specs.declared.status.Status.{Status}
use Rattle.event_log.specs.Events.{Event}
use Rattle.roll_core.specs.Boards.{BoardView}
use Rattle.roll_run.specs.Histories.{Gains}
use Rattle.roll_run.specs.Journals.{AreKept, AreKeptAhead, beginning, ended}
use Rattle.roll_run.proofs.Following.{if_err, if_ok}
use Rattle.roll_run.proofs.Keeping.{fault_kept, run_kept}
use Rattle.roll_run.proofs.opening.run_on.Goals as goal

pub returns-clause-kept : goal.returns-clause-kept
returns-clause-kept g c =
    let keeps = g.K.Recorder.keeps in
    let start : BoardView g.row.R.Denot = c.in-Ok-new.board in
    let new : BoardView g.row.R.Denot = c.resume-gone.result.1 in
    let fleet : FleetView = c.args.setup.now.fleet.now in
    let is = c.in-Ok-new.ensures.ok in
    let fleet_is : fleet ≡ start.kernel.fleet = sym (ap (λ (b : BoardView g.row.R.Denot). b.kernel.fleet) is) in
    let start_is : c.as_slice-statuses.result.now ≡ start.kernel.start = sym (ap (λ (b : BoardView g.row.R.Denot). b.kernel.start) is) in
    let none : start.kernel.log ≡ [] = ap (λ (b : BoardView g.row.R.Denot). b.kernel.log) is in
    let earlier = ap (λ x. x.earlier) c.resume-gone.ensures.same.context ∙ ap (λ (b : BoardView g.row.R.Denot). b.context.earlier) is in
    let gained = c.leave.ensures.history ∙ ap (λ (l : List (List Event)). l ++ new.kernel.log ∷ []) earlier in
    let begins = subst (λ (l : List Status). keeps c.args.keeper.now c.begins.new.self start.kernel.fleet (beginning l)) start_is
    (subst (λ (f : FleetView). keeps c.args.keeper.now c.begins.new.self f (beginning c.as_slice-statuses.result.now)) fleet_is c.begins.ensures) in
    let told = if_ok c.resume-gone.result.0 (λ end here. subst (λ (f : FleetView). keeps c.resume-gone.new.keeper c.keep_end.new.keeper f (ended end)) fleet_is here) c.keep_end.ensures.ok in
    let legal = if_ok c.leave.result.0 (λ run here. here.is_safe.legal) c.leave.ensures.ok in
    subst (λ (f : FleetView). IfOk c.leave.result.0 (λ run. Gains c.args.history c.leave.result.1 (AreKept keeps f c.args.keeper.now c.keep_end.new.keeper (Some run.end ∷ [])))) (sym fleet_is)
    (run_kept keeps start.kernel new.kernel c.args.keeper.now c.begins.new.self c.resume-gone.new.keeper c.keep_end.new.keeper c.args.history c.leave.result.1 c.resume-gone.result.0 c.leave.result.0 none begins gained c.leave.ensures.end legal c.resume-gone.ensures.kept told)

pub returns-clause-ahead : goal.returns-clause-ahead
returns-clause-ahead g c =
    let keeps = g.K.Recorder.keeps in
    let start : BoardView g.row.R.Denot = c.in-Ok-new.board in
    let new : BoardView g.row.R.Denot = c.resume-gone.result.1 in
    let fleet : FleetView = c.args.setup.now.fleet.now in
    let is = c.in-Ok-new.ensures.ok in
    let fleet_is : fleet ≡ start.kernel.fleet = sym (ap (λ (b : BoardView g.row.R.Denot). b.kernel.fleet) is) in
    let start_is : c.as_slice-statuses.result.now ≡ start.kernel.start = sym (ap (λ (b : BoardView g.row.R.Denot). b.kernel.start) is) in
    let none : start.kernel.log ≡ [] = ap (λ (b : BoardView g.row.R.Denot). b.kernel.log) is in
    let earlier = ap (λ x. x.earlier) c.resume-gone.ensures.same.context ∙ ap (λ (b : BoardView g.row.R.Denot). b.context.earlier) is in
    let gained = c.leave.ensures.history ∙ ap (λ (l : List (List Event)). l ++ new.kernel.log ∷ []) earlier in
    let begins = subst (λ (l : List Status). keeps c.args.keeper.now c.begins.new.self start.kernel.fleet (beginning l)) start_is
    (subst (λ (f : FleetView). keeps c.args.keeper.now c.begins.new.self f (beginning c.as_slice-statuses.result.now)) fleet_is c.begins.ensures) in
    let legal = if_err c.leave.result.0 (λ fault here. here.is_safe.legal) c.leave.ensures.err in
    subst (λ (f : FleetView). IfErr c.leave.result.0 (λ _. Gains c.args.history c.leave.result.1 (AreKeptAhead keeps f c.args.keeper.now c.keep_end.new.keeper []))) (sym fleet_is)
    (fault_kept keeps start.kernel new.kernel c.args.keeper.now c.begins.new.self c.resume-gone.new.keeper c.keep_end.new.keeper c.args.history c.leave.result.1 c.resume-gone.result.0 c.leave.result.0 none begins gained c.leave.ensures.why legal c.resume-gone.ensures.ahead c.keep_end.ensures.err)
