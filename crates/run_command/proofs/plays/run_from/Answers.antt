use Rattle.std.proofs.Common.{◌≡◌, None, List, subst, sym}
use Rattle.std.specs.List.{find}
use Rattle.domains.specs.Patterns.{names_nothing}
use Rattle.play_forecast.specs.PlayPlans.{named_parts}
use Rattle.play_model.specs.declared.play.Play.{Play}
use Rattle.roll_run.specs.declared.run.Run.{Run}
use Rattle.roll_run.specs.Journals.{ends_of}
use Rattle.roll_run.proofs.Following.{err_of, ok_of}
use Rattle.run_command.proofs.LeftLemmas.{ends_with_broken, ends_with_done}
use Rattle.run_command.proofs.PlayLemmas.{known_from}
use Rattle.run_command.proofs.TextLemmas.{all_err, all_ok, fault_told, gains_err, gains_ok, keeps_broken, keeps_not_ahead, keeps_runs, may_break, runs_told}
use Rattle.run_command.specs.Beginnings.{IsTrueFaultFrom, WritesFrom, plays_from}
use Rattle.run_command.specs.Lefts.{EndsWithDone}
use Rattle.run_command.proofs.plays.run_from.Goals as goal

pub invariant_of-setup-clause-known : goal.invariant_of-setup-clause-known
invariant_of-setup-clause-known g c =
    subst (λ (l : List Play). find (names_nothing c.args.fleet.now) (named_parts l) ≡ None) (sym c.behind-coming.ensures)
    (known_from c.args.fleet.now c.args.beginning.plays_before c.args.plays.now c.requires.known)

pub returns-in-Ok-clause-ok : goal.returns-in-Ok-clause-ok
returns-in-Ok-clause-ok g c =
    let may = g.R.Runner.may c.args.runner.now in
    let old = g.W.Write.contents c.args.out.now in
    let new = g.W.Write.contents c.report_runs-told.new.out in
    let gained = ok_of _ c.run_plays-ran.result.0 c.in-Ok.runs c.in-Ok.is c.run_plays-ran.ensures.ok in
    gains_ok (WritesFrom c.args.manner.form may c.args.fleet.now c.args.manner.forks c.args.plays.now c.args.beginning old new) c.report_runs-told.result c.args.history c.run_plays-ran.result.1 gained
    (runs_told c.args.manner.form may c.args.fleet.now c.args.manner.forks c.args.plays.now c.behind-coming.result.now c.args.beginning c.are_several-several.result old new c.behind-coming.ensures c.are_several-several.ensures
    c.in-Ok.runs.items c.as_slice.result.now gained.logs c.report_runs-told.result gained.are c.as_slice.ensures.value c.report_runs-told.ensures).0

pub returns-in-Ok-clause-err : goal.returns-in-Ok-clause-err
returns-in-Ok-clause-err g c =
    let may = g.R.Runner.may c.args.runner.now in
    let old = g.W.Write.contents c.args.out.now in
    let new = g.W.Write.contents c.report_runs-told.new.out in
    let gained = ok_of _ c.run_plays-ran.result.0 c.in-Ok.runs c.in-Ok.is c.run_plays-ran.ensures.ok in
    gains_err (IsTrueFaultFrom c.args.manner.form may c.args.fleet.now c.args.manner.forks c.args.plays.now c.args.beginning old new) c.report_runs-told.result c.args.history c.run_plays-ran.result.1 gained
    (runs_told c.args.manner.form may c.args.fleet.now c.args.manner.forks c.args.plays.now c.behind-coming.result.now c.args.beginning c.are_several-several.result old new c.behind-coming.ensures c.are_several-several.ensures
    c.in-Ok.runs.items c.as_slice.result.now gained.logs c.report_runs-told.result gained.are c.as_slice.ensures.value c.report_runs-told.ensures).1

pub returns-after-matches-clause-err : goal.returns-after-matches-clause-err
returns-after-matches-clause-err g c =
    let may = g.R.Runner.may c.args.runner.now in
    let old = g.W.Write.contents c.args.out.now in
    let new = g.W.Write.contents c.report_broken-told.new.out in
    let gained = err_of _ c.run_plays-ran.result.0 c.in-Err.fault c.in-Err.is c.run_plays-ran.ensures.err in
    record {
      logs = gained.logs;
      grown = gained.grown;
      are = fault_told c.args.manner.form may c.args.fleet.now c.args.manner.forks c.args.plays.now c.behind-coming.result.now c.args.beginning c.are_several-several.result old new c.behind-coming.ensures c.are_several-several.ensures
          c.in-Err.fault.done.items c.in-Err.fault.last gained.logs c.report_broken-told.result gained.are c.report_broken-told.ensures;
    }

pub of_all-left-requires : goal.of_all-left-requires
of_all-left-requires g c =
    let after = c.run_plays-ran.result.1 in
    let start = c.args.beginning.start in
    let gained = ok_of _ c.run_plays-ran.result.0 c.in-Ok.runs c.in-Ok.is c.run_plays-ran.ensures.ok in
    subst (λ (l : List Run). EndsWithDone c.rolls-rolls.result l after) (sym c.as_slice-in-Ok.ensures.value)
    (ends_with_done (g.R.Runner.may c.args.runner.now) c.args.fleet.now c.args.manner.forks c.behind-coming.result.now start.statuses.items start.vars.items
    c.rolls-rolls.result c.args.history after c.rolls-rolls.ensures c.in-Ok.runs.items gained)

pub of_broken-left-requires : goal.of_broken-left-requires
of_broken-left-requires g c =
    let after = c.run_plays-ran.result.1 in
    let start = c.args.beginning.start in
    let fault = c.in-Err.fault in
    let gained = err_of _ c.run_plays-ran.result.0 fault c.in-Err.is c.run_plays-ran.ensures.err in
    ends_with_broken (g.R.Runner.may c.args.runner.now) c.args.fleet.now c.args.manner.forks c.behind-coming.result.now start.statuses.items start.vars.items
    c.rolls-rolls.result c.args.history after c.rolls-rolls.ensures fault.done.items fault.last gained

pub returns-in-Ok-clause-kept : goal.returns-in-Ok-clause-kept
returns-in-Ok-clause-kept g c =
    let kept = ok_of _ c.run_plays-ran.result.0 c.in-Ok.runs c.in-Ok.is c.run_plays-ran.ensures.kept in
    all_ok c.report_runs-told.result
    (keeps_runs g.K.Recorder.keeps c.args.keeper c.plays_begin-2.new.self c.run_plays-ran.result.2 c.args.fleet.now (plays_from c.args.beginning c.args.plays.now) c.behind-coming.result.now
    c.args.history c.run_plays-ran.result.1 c.behind-coming.ensures c.plays_begin-2.ensures (ends_of c.in-Ok.runs.items) kept)

pub returns-in-Ok-clause-ahead : goal.returns-in-Ok-clause-ahead
returns-in-Ok-clause-ahead g c =
    let kept = ok_of _ c.run_plays-ran.result.0 c.in-Ok.runs c.in-Ok.is c.run_plays-ran.ensures.kept in
    all_err c.report_runs-told.result
    (keeps_not_ahead g.K.Recorder.keeps c.args.keeper c.plays_begin-2.new.self c.run_plays-ran.result.2 c.args.fleet.now (plays_from c.args.beginning c.args.plays.now) c.behind-coming.result.now
    c.args.history c.run_plays-ran.result.1 c.behind-coming.ensures c.plays_begin-2.ensures (ends_of c.in-Ok.runs.items) kept)

pub returns-after-matches-clause-ahead : goal.returns-after-matches-clause-ahead
returns-after-matches-clause-ahead g c =
    let ahead = err_of _ c.run_plays-ran.result.0 c.in-Err.fault c.in-Err.is c.run_plays-ran.ensures.ahead in
    keeps_broken g.K.Recorder.keeps c.args.keeper c.plays_begin-2.new.self c.run_plays-ran.result.2 c.args.fleet.now (plays_from c.args.beginning c.args.plays.now) c.behind-coming.result.now
    c.args.history c.run_plays-ran.result.1 c.behind-coming.ensures c.plays_begin-2.ensures (ends_of c.in-Err.fault.done.items) ahead

pub returns-after-matches-clause-asked : goal.returns-after-matches-clause-asked
returns-after-matches-clause-asked g c =
    let asked = err_of _ c.run_plays-ran.result.0 c.in-Err.fault c.in-Err.is c.run_plays-ran.ensures.asked in
    may_break c.args.manner.form
    (g.A.StopControl.asks c.args.coordinator.now.attend.now) g.K.Recorder.refuses c.args.beginning.plays_before c.args.fleet.now c.are_several-several.result c.in-Err.fault.done.items c.in-Err.fault.last
    (g.W.Write.contents c.args.out.now) (g.W.Write.contents c.report_broken-told.new.out)
    c.report_broken-told.result c.report_broken-told.ensures asked
