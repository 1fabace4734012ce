use Rattle.std.proofs.Common.{◌≡◌, inr, List, refl, subst}
use Rattle.domains.specs.Ids.{host_numbers}
use Rattle.domains.specs.FleetViews.{FleetView}
use Rattle.event_log.specs.Events.{Event}
use Rattle.roll_run.specs.Journals.{opening, refused}
use Rattle.roll_run.proofs.Keeping.{ahead_by_none, keeps_broken, keeps_run, keeps_still}
use Rattle.roll_run.proofs.Passing.{breaks_at_once}
use Rattle.roll_run.proofs.batch.run_batch.Goals as goal

pub returns-then-not-goes_on-clause-err : goal.returns-then-not-goes_on-clause-err
returns-then-not-goes_on-clause-err g c = breaks_at_once c.args.board c.args.board (host_numbers c.args.batch.now) refl

pub returns-then-not-goes_on-clause-ahead : goal.returns-then-not-goes_on-clause-ahead
returns-then-not-goes_on-clause-ahead g c =
    let kernel = c.args.board.kernel in
    ahead_by_none g.K.Recorder.keeps kernel kernel c.args.keeper.now c.args.keeper.now (keeps_still g.K.Recorder.keeps kernel kernel c.args.keeper.now refl)

pub returns-then-not-opens-clause-err : goal.returns-then-not-opens-clause-err
returns-then-not-opens-clause-err g c = breaks_at_once c.args.board c.args.board (host_numbers c.args.batch.now) refl

pub returns-then-not-opens-clause-ahead : goal.returns-then-not-opens-clause-ahead
returns-then-not-opens-clause-ahead g c =
    let kernel = c.args.board.kernel in
    let batch = host_numbers c.args.batch.now in
    let kept = subst (λ (l : List Event). g.K.Recorder.keeps c.args.keeper.now c.opens.new.self kernel.fleet (refused l batch)) c.moment.ensures
    (subst (λ (f : FleetView). g.K.Recorder.keeps c.args.keeper.now c.opens.new.self f (refused c.moment.result batch)) c.fleet.ensures (c.opens.ensures.refused c.if-not-opens.true)) in
    record { mid = c.args.keeper.now; up = keeps_still g.K.Recorder.keeps kernel kernel c.args.keeper.now refl; ahead = inr (kernel.log, batch, inr kept) }

pub returns-in-Ok-clause-kept : goal.returns-in-Ok-clause-kept
returns-in-Ok-clause-kept g c =
    let kernel = c.args.board.kernel in
    let batch = host_numbers c.args.batch.now in
    let kept = subst (λ (l : List Event). g.K.Recorder.keeps c.args.keeper.now c.opens.new.self kernel.fleet (opening l batch)) c.moment.ensures
    (subst (λ (f : FleetView). g.K.Recorder.keeps c.args.keeper.now c.opens.new.self f (opening c.moment.result batch)) c.fleet.ensures (c.opens.ensures.opened c.if-not-opens.false)) in
    keeps_run g.K.Recorder.keeps c.args.board c.in-Ok.board (host_numbers c.args.batch.now) c.args.keeper.now c.opens.new.self c.in-Ok.ensures.ok kept

pub returns-in-Err-clause-ahead : goal.returns-in-Err-clause-ahead
returns-in-Err-clause-ahead g c =
    let kernel = c.args.board.kernel in
    let batch = host_numbers c.args.batch.now in
    let kept = subst (λ (l : List Event). g.K.Recorder.keeps c.args.keeper.now c.opens.new.self kernel.fleet (opening l batch)) c.moment.ensures
    (subst (λ (f : FleetView). g.K.Recorder.keeps c.args.keeper.now c.opens.new.self f (opening c.moment.result batch)) c.fleet.ensures (c.opens.ensures.opened c.if-not-opens.false)) in
    keeps_broken g.K.Recorder.keeps c.args.board c.in-Err.board (host_numbers c.args.batch.now) c.args.keeper.now c.opens.new.self c.in-Err.ensures.err kept
