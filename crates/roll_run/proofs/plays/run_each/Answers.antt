use Rattle.std.proofs.Common.{◌≡◌, ◌-◌, None, Option, List, [], ◌∷◌, length, take, drop, refl, sym, subst}
use Rattle.std.specs.List.{find}
use Rattle.domains.specs.Patterns.{names_nothing}
use Rattle.play_model.specs.declared.play.Play.{Play}
use Rattle.play_forecast.specs.PlayPlans.{named_parts}
use Rattle.event_log.specs.Events.{Event}
use Rattle.roll_run.specs.declared.run.Run.{Run}
use Rattle.roll_run.specs.Histories.{Gains}
use Rattle.roll_run.specs.Journals.{AreKeptAhead, ends_of}
use Rattle.roll_run.specs.Runs.{roll_by}
use Rattle.roll_run.specs.Plays.{AreBroken, AreBrokenOff}
use Rattle.roll_run.proofs.Following.{done_of, err_of, first_broken, first_runs, gains_as, gains_more, gains_none, known_first, known_rest, ok_of, plays_split, ready_run, unbegun_runs}
use Rattle.roll_run.proofs.Keeping.{ahead_first, kept_first, none_ahead}
use Rattle.roll_run.proofs.plays.run_each.Goals as goal

pub returns-in_default-places-clause-err : goal.returns-in_default-places-clause-err
returns-in_default-places-clause-err g c =
    gains_none c.args.history c.args.history refl
    (unbegun_runs (g.R.Runner.may c.args.setup.now.runner.now) c.args.setup.now.fleet.now c.args.setup.now.forks c.args.setup.now.plays.now c.args.start.statuses.items c.args.start.vars.items c.before_a_log.result c.requires.play c.before_a_log.ensures.done c.before_a_log.ensures.last)

pub run_one-run-requires-clause-known : goal.run_one-run-requires-clause-known
run_one-run-requires-clause-known g c κs within =
    let plays = c.args.setup.now.plays.now in
    let fleet = c.args.setup.now.fleet.now in
    let split = plays_split plays c.first-item.result c.in-len1-up.len_at_least c.first-item.is in
    known_first fleet c.first-item.result (take (length plays - 1) (drop 1 plays)) (subst (λ (l : List Play). find (names_nothing fleet) (named_parts l) ≡ None) split c.args.setup.now.known)

pub run_later-ended-requires-clause-ready : goal.run_later-ended-requires-clause-ready
run_later-ended-requires-clause-ready g c κs within =
    let first = ok_of _ c.run_one-run.result.0 c.in-Ok-run.run' c.in-Ok-run.is c.run_one-run.ensures.ok in
    ready_run (g.R.Runner.may c.args.setup.now.runner.now) c.args.setup.now.fleet.now (roll_by c.args.setup.now.fleet.now c.first-item.result c.args.setup.now.forks c.args.start.statuses.items c.args.start.vars.items) c.in-Ok-run.run' first.are.log refl c.requires.starts.ready.all_hosts first.are.run_is

pub invariant_of-later-clause-known : goal.invariant_of-later-clause-known
invariant_of-later-clause-known g c =
    let plays = c.args.setup.now.plays.now in
    let fleet = c.args.setup.now.fleet.now in
    let split = plays_split plays c.first-item.result c.in-len1-up.len_at_least c.first-item.is in
    known_rest fleet c.first-item.result (take (length plays - 1) (drop 1 plays)) (subst (λ (l : List Play). find (names_nothing fleet) (named_parts l) ≡ None) split c.args.setup.now.known)

pub returns-in-Ok-ended-clause-ok : goal.returns-in-Ok-ended-clause-ok
returns-in-Ok-ended-clause-ok g c =
    let may = g.R.Runner.may c.args.setup.now.runner.now in
    let plays = c.args.setup.now.plays.now in
    let later = take (length plays - 1) (drop 1 plays) in
    let split = plays_split plays c.first-item.result c.in-len1-up.len_at_least c.first-item.is in
    let first = ok_of _ c.run_one-run.result.0 c.in-Ok-run.run' c.in-Ok-run.is c.run_one-run.ensures.ok in
    let more = done_of c.run_later-ended.result.0 c.in-Ok-ended.field-0 c.in-Ok-ended.is c.run_later-ended.ensures.ok in
    gains_more c.args.history c.run_one-run.result.1 c.run_later-ended.result.1 first
    (λ (logs : List (List Event)) has. first_runs may c.args.setup.now.fleet.now c.args.setup.now.forks plays c.first-item.result later c.args.start.statuses.items c.args.start.vars.items c.in-Ok-run.run' first.are.log c.in-Ok.done.items c.run_later-ended.new.done.items logs split
    c.in-Ok.ensures.done.0 first.are.run_is has) more

pub returns-in-Err-ended-clause-err : goal.returns-in-Err-ended-clause-err
returns-in-Err-ended-clause-err g c =
    let may = g.R.Runner.may c.args.setup.now.runner.now in
    let plays = c.args.setup.now.plays.now in
    let later = take (length plays - 1) (drop 1 plays) in
    let split = plays_split plays c.first-item.result c.in-len1-up.len_at_least c.first-item.is in
    let first = ok_of _ c.run_one-run.result.0 c.in-Ok-run.run' c.in-Ok-run.is c.run_one-run.ensures.ok in
    let more = err_of _ c.run_later-ended.result.0 c.in-Err-ended.last c.in-Err-ended.is c.run_later-ended.ensures.err in
    gains_more c.args.history c.run_one-run.result.1 c.run_later-ended.result.1 first
    (λ (logs : List (List Event)) has. first_broken may c.args.setup.now.fleet.now c.args.setup.now.forks plays c.first-item.result later c.args.start.statuses.items c.args.start.vars.items c.in-Ok-run.run' first.are.log c.in-Ok.done.items c.run_later-ended.new.done.items
    c.in-Err-ended.last logs split c.in-Ok.ensures.done.0 first.are.run_is has) more

pub returns-in-Err-clause-err : goal.returns-in-Err-clause-err
returns-in-Err-clause-err g c =
    let may = g.R.Runner.may c.args.setup.now.runner.now in
    let plays = c.args.setup.now.plays.now in
    let later = take (length plays - 1) (drop 1 plays) in
    let split = plays_split plays c.first-item.result c.in-len1-up.len_at_least c.first-item.is in
    let broke = err_of _ c.run_one-run.result.0 c.in-Err.last c.in-Err.is c.run_one-run.ensures.err in
    let Broken : List Run → List (List Event) → Type 0 = λ done logs. AreBrokenOff may c.args.setup.now.fleet.now c.args.setup.now.forks c.first-item.result later c.args.start.statuses.items c.args.start.vars.items done c.in-Err.last logs in
    gains_as c.args.history c.run_one-run.result.1
    (λ (logs : List (List Event)) is. record { first = c.first-item.result; later = later; plays_are = split; broken = subst (λ (l : List Run). Broken l logs) (sym c.in-Ok.ensures.done.0) is }) broke

pub returns-in-Ok-ended-clause-kept : goal.returns-in-Ok-ended-clause-kept
returns-in-Ok-ended-clause-kept g c =
    let first = ok_of _ c.run_one-run.result.0 c.in-Ok-run.run' c.in-Ok-run.is c.run_one-run.ensures.kept in
    let more = done_of c.run_later-ended.result.0 c.in-Ok-ended.field-0 c.in-Ok-ended.is c.run_later-ended.ensures.kept in
    kept_first g.K.Recorder.keeps c.args.setup.now.fleet.now c.args.keeper.now c.run_one-run.new.keeper c.run_later-ended.new.keeper c.args.history c.run_one-run.result.1 c.run_later-ended.result.1 c.in-Ok-run.run' first
    c.in-Ok.done.items c.run_later-ended.new.done.items c.in-Ok.ensures.done.0 more

pub returns-in-Err-ended-clause-ahead : goal.returns-in-Err-ended-clause-ahead
returns-in-Err-ended-clause-ahead g c =
    let first = ok_of _ c.run_one-run.result.0 c.in-Ok-run.run' c.in-Ok-run.is c.run_one-run.ensures.kept in
    let more = err_of _ c.run_later-ended.result.0 c.in-Err-ended.last c.in-Err-ended.is c.run_later-ended.ensures.ahead in
    ahead_first g.K.Recorder.keeps c.args.setup.now.fleet.now c.args.keeper.now c.run_one-run.new.keeper c.run_later-ended.new.keeper c.args.history c.run_one-run.result.1 c.run_later-ended.result.1 c.in-Ok-run.run' first
    c.in-Ok.done.items c.run_later-ended.new.done.items c.in-Ok.ensures.done.0 more

pub returns-in_default-places-clause-ahead : goal.returns-in_default-places-clause-ahead
returns-in_default-places-clause-ahead g c =
    subst (λ (l : List Run). Gains c.args.history c.args.history (AreKeptAhead g.K.Recorder.keeps c.args.setup.now.fleet.now c.args.keeper.now c.args.keeper.now (ends_of l))) (sym c.before_a_log.ensures.done)
    (none_ahead g.K.Recorder.keeps c.args.setup.now.fleet.now c.args.keeper.now c.args.keeper.now c.args.history refl)

pub returns-in-Err-clause-ahead : goal.returns-in-Err-clause-ahead
returns-in-Err-clause-ahead g c =
    subst (λ (l : List Run). Gains c.args.history c.run_one-run.result.1 (AreKeptAhead g.K.Recorder.keeps c.args.setup.now.fleet.now c.args.keeper.now c.run_one-run.new.keeper (ends_of l))) (sym c.in-Ok.ensures.done.0)
    (err_of _ c.run_one-run.result.0 c.in-Err.last c.in-Err.is c.run_one-run.ensures.ahead)
