use Rattle.std.proofs.Common.{◌≡◌, ◌-◌, None, Option, List, [], ◌∷◌, length, take, drop, refl, sym, ap, ◌∙◌, subst, inl, inr}
use Rattle.std.specs.List.{find}
use Rattle.domains.specs.Patterns.{names_nothing}
use Rattle.fleet_states.specs.declared.status.Status.{Status}
use Rattle.play_model.specs.declared.play.Play.{Play}
use Rattle.play_forecast.specs.PlayPlans.{named_parts}
use Rattle.roll_run.specs.declared.fault.RunFault.{RunFault}
use Rattle.roll_run.specs.Runs.{roll_by}
use Rattle.roll_run.specs.Plays.{IsNotBegun, IsRollAfter}
use Rattle.roll_run.specs.Inside.{HasBrokenAfter, HasRunAfter}
use Rattle.roll_run.proofs.Following.{breaks_there, err_of, finished, gains_broken, gains_fault, gains_none, gains_run, if_err, if_ok, known_first, known_rest, no_play, none_left, ok_of, on_ok, plays_split, ready_run, same_length, stops_there, unfinished}
use Rattle.roll_run.proofs.Keeping.{broken_after, kept_ahead_further, kept_further, none_ahead, none_further}
use Rattle.roll_run.proofs.plays.+run_later.Goals as goal

pub returns-in_default-clause-ok : goal.returns-in_default-clause-ok
returns-in_default-clause-ok g t c =
    let may = g.R.Runner.may c.args.setup.now.runner.now in
    let left = none_left may c.args.setup.now.fleet.now c.args.setup.now.forks c.args.before c.args.done.now.items c.keep.new.items.items c.keep.ensures.items in
    gains_none c.args.history c.args.history refl
    (subst (λ (l : List Play). HasRunAfter may c.args.setup.now.fleet.now c.args.setup.now.forks l c.args.before c.args.done.now.items c.keep.new.items.items []) (sym (no_play c.args.setup.now.plays.now c.in_default.len_below)) left)

pub returns-then-not-is_finished-clause-ok : goal.returns-then-not-is_finished-clause-ok
returns-then-not-is_finished-clause-ok g t c =
    gains_none c.args.history c.args.history refl
    (stops_there (g.R.Runner.may c.args.setup.now.runner.now) c.args.setup.now.fleet.now c.args.setup.now.forks c.args.setup.now.plays.now c.args.before c.args.done.now.items c.keep-then-not-is_finished.new.items.items
    (unfinished c.args.before.end (sym c.is_finished.ensures ∙ c.if-not-is_finished.true)) c.keep-then-not-is_finished.ensures.items)

pub begin_after-requires-clause-known : goal.begin_after-requires-clause-known
begin_after-requires-clause-known g t c =
    let plays = c.args.setup.now.plays.now in
    let fleet = c.args.setup.now.fleet.now in
    let split = plays_split plays c.play-item.result c.in-len1-up.len_at_least c.play-item.is in
    known_first fleet c.play-item.result (take (length plays - 1) (drop 1 plays)) (subst (λ (l : List Play). find (names_nothing fleet) (named_parts l) ≡ None) split c.args.setup.now.known)

pub run_one-run-requires-clause-starts : goal.run_one-run-requires-clause-starts
run_one-run-requires-clause-starts g t c κs within = record {
  ready = c.in-Ok.ensures.ready;
  each = same_length c.in-Ok.start.vars.items c.args.before.vars.items c.in-Ok.ensures.vars ∙ c.requires.ready.each;
}

pub run_one-run-requires-clause-known : goal.run_one-run-requires-clause-known
run_one-run-requires-clause-known g t c κs within =
    let plays = c.args.setup.now.plays.now in
    let fleet = c.args.setup.now.fleet.now in
    let split = plays_split plays c.play-item.result c.in-len1-up.len_at_least c.play-item.is in
    known_first fleet c.play-item.result (take (length plays - 1) (drop 1 plays)) (subst (λ (l : List Play). find (names_nothing fleet) (named_parts l) ≡ None) split c.args.setup.now.known)

pub run_later-requires-clause-ready : goal.run_later-requires-clause-ready
run_later-requires-clause-ready g t c κs within =
    let first = ok_of _ c.run_one-run.result.0 c.in-Ok-run.run' c.in-Ok-run.is c.run_one-run.ensures.ok in
    ready_run (g.R.Runner.may c.args.setup.now.runner.now) c.args.setup.now.fleet.now (roll_by c.args.setup.now.fleet.now c.play-item.result c.args.setup.now.forks c.in-Ok.start.statuses.items c.in-Ok.start.vars.items) c.in-Ok-run.run' first.are.log refl
    c.in-Ok.ensures.ready.all_hosts first.are.run_is

pub invariant_of-later-clause-known : goal.invariant_of-later-clause-known
invariant_of-later-clause-known g t c =
    let plays = c.args.setup.now.plays.now in
    let fleet = c.args.setup.now.fleet.now in
    let split = plays_split plays c.play-item.result c.in-len1-up.len_at_least c.play-item.is in
    known_rest fleet c.play-item.result (take (length plays - 1) (drop 1 plays)) (subst (λ (l : List Play). find (names_nothing fleet) (named_parts l) ≡ None) split c.args.setup.now.known)

pub returns-in-Ok-run-clause-ok : goal.returns-in-Ok-run-clause-ok
returns-in-Ok-run-clause-ok g t c =
    let fleet = c.args.setup.now.fleet.now in
    let play = c.play-item.result in
    let plays = c.args.setup.now.plays.now in
    let roll = roll_by fleet play c.args.setup.now.forks c.in-Ok.start.statuses.items c.in-Ok.start.vars.items in
    let begins : IsRollAfter fleet play c.args.setup.now.forks c.args.before roll =
    record { vars = c.in-Ok.start.vars.items; same = c.in-Ok.ensures.vars; roll_is = ap (λ (l : List Status). roll_by fleet play c.args.setup.now.forks l c.in-Ok.start.vars.items) c.in-Ok.ensures.statuses } in
    let split = plays_split plays play c.in-len1-up.len_at_least c.play-item.is in
    let ended = finished c.args.before.end (sym c.is_finished.ensures ∙ c.if-not-is_finished.false) in
    let rest = take (length plays - 1) (drop 1 plays) in
    let first = ok_of _ c.run_one-run.result.0 c.in-Ok-run.run' c.in-Ok-run.is c.run_one-run.ensures.ok in
    on_ok c.run_later.result.0
    (gains_run (g.R.Runner.may c.args.setup.now.runner.now) fleet c.args.setup.now.forks plays play rest split c.args.before ended roll begins c.args.done.now.items c.keep-in-Ok.new.items.items c.run_later.new.done.items c.keep-in-Ok.ensures.items c.args.history c.run_one-run.result.1
    c.run_later.result.1 c.in-Ok-run.run' first) c.run_later.ensures.ok

pub returns-in-Ok-run-clause-err : goal.returns-in-Ok-run-clause-err
returns-in-Ok-run-clause-err g t c =
    let fleet = c.args.setup.now.fleet.now in
    let play = c.play-item.result in
    let plays = c.args.setup.now.plays.now in
    let roll = roll_by fleet play c.args.setup.now.forks c.in-Ok.start.statuses.items c.in-Ok.start.vars.items in
    let begins : IsRollAfter fleet play c.args.setup.now.forks c.args.before roll =
    record { vars = c.in-Ok.start.vars.items; same = c.in-Ok.ensures.vars; roll_is = ap (λ (l : List Status). roll_by fleet play c.args.setup.now.forks l c.in-Ok.start.vars.items) c.in-Ok.ensures.statuses } in
    let split = plays_split plays play c.in-len1-up.len_at_least c.play-item.is in
    let ended = finished c.args.before.end (sym c.is_finished.ensures ∙ c.if-not-is_finished.false) in
    let rest = take (length plays - 1) (drop 1 plays) in
    let first = ok_of _ c.run_one-run.result.0 c.in-Ok-run.run' c.in-Ok-run.is c.run_one-run.ensures.ok in
    if_err c.run_later.result.0
    (λ (last : RunFault). gains_broken (g.R.Runner.may c.args.setup.now.runner.now) fleet c.args.setup.now.forks plays play rest split c.args.before ended roll begins c.args.done.now.items c.keep-in-Ok.new.items.items c.run_later.new.done.items c.keep-in-Ok.ensures.items c.args.history
    c.run_one-run.result.1 c.run_later.result.1 c.in-Ok-run.run' last first) c.run_later.ensures.err

pub returns-in-Ok-run-clause-kept : goal.returns-in-Ok-run-clause-kept
returns-in-Ok-run-clause-kept g t c =
    let fleet = c.args.setup.now.fleet.now in
    let first = ok_of _ c.run_one-run.result.0 c.in-Ok-run.run' c.in-Ok-run.is c.run_one-run.ensures.kept in
    on_ok c.run_later.result.0
    (kept_further g.K.Recorder.keeps fleet c.args.keeper.now c.run_one-run.new.keeper c.run_later.new.keeper c.args.history c.run_one-run.result.1 c.run_later.result.1 c.in-Ok-run.run' first
    c.args.before c.args.done.now.items c.keep-in-Ok.new.items.items c.run_later.new.done.items c.keep-in-Ok.ensures.items) c.run_later.ensures.kept

pub returns-in-Ok-run-clause-ahead : goal.returns-in-Ok-run-clause-ahead
returns-in-Ok-run-clause-ahead g t c =
    let fleet = c.args.setup.now.fleet.now in
    let first = ok_of _ c.run_one-run.result.0 c.in-Ok-run.run' c.in-Ok-run.is c.run_one-run.ensures.kept in
    if_err c.run_later.result.0
    (λ _. kept_ahead_further g.K.Recorder.keeps fleet c.args.keeper.now c.run_one-run.new.keeper c.run_later.new.keeper c.args.history c.run_one-run.result.1 c.run_later.result.1 c.in-Ok-run.run' first
    c.args.before c.args.done.now.items c.keep-in-Ok.new.items.items c.run_later.new.done.items c.keep-in-Ok.ensures.items) c.run_later.ensures.ahead

pub returns-in-Err-clause-ahead : goal.returns-in-Err-clause-ahead
returns-in-Err-clause-ahead g t c =
    broken_after g.K.Recorder.keeps c.args.setup.now.fleet.now c.args.keeper.now c.args.keeper.now c.args.history c.args.history c.args.before c.args.done.now.items c.keep-in-Err.new.items.items c.keep-in-Err.ensures.items
    (none_ahead g.K.Recorder.keeps c.args.setup.now.fleet.now c.args.keeper.now c.args.keeper.now c.args.history refl)

pub returns-in-Err-run-clause-ahead : goal.returns-in-Err-run-clause-ahead
returns-in-Err-run-clause-ahead g t c =
    broken_after g.K.Recorder.keeps c.args.setup.now.fleet.now c.args.keeper.now c.run_one-run.new.keeper c.args.history c.run_one-run.result.1 c.args.before c.args.done.now.items c.keep-in-Ok.new.items.items c.keep-in-Ok.ensures.items
    (err_of _ c.run_one-run.result.0 c.in-Err-run.fault c.in-Err-run.is c.run_one-run.ensures.ahead)

pub returns-in_default-clause-kept : goal.returns-in_default-clause-kept
returns-in_default-clause-kept g t c =
    none_further g.K.Recorder.keeps c.args.setup.now.fleet.now c.args.keeper.now c.args.keeper.now c.args.history c.args.before c.args.done.now.items c.keep.new.items.items c.keep.ensures.items refl

pub returns-then-not-is_finished-clause-kept : goal.returns-then-not-is_finished-clause-kept
returns-then-not-is_finished-clause-kept g t c =
    none_further g.K.Recorder.keeps c.args.setup.now.fleet.now c.args.keeper.now c.args.keeper.now c.args.history c.args.before c.args.done.now.items c.keep-then-not-is_finished.new.items.items
    c.keep-then-not-is_finished.ensures.items refl

pub returns-in-Err-run-clause-err : goal.returns-in-Err-run-clause-err
returns-in-Err-run-clause-err g t c =
    let fleet = c.args.setup.now.fleet.now in
    let play = c.play-item.result in
    let plays = c.args.setup.now.plays.now in
    let roll = roll_by fleet play c.args.setup.now.forks c.in-Ok.start.statuses.items c.in-Ok.start.vars.items in
    let begins : IsRollAfter fleet play c.args.setup.now.forks c.args.before roll =
    record { vars = c.in-Ok.start.vars.items; same = c.in-Ok.ensures.vars; roll_is = ap (λ (l : List Status). roll_by fleet play c.args.setup.now.forks l c.in-Ok.start.vars.items) c.in-Ok.ensures.statuses } in
    let split = plays_split plays play c.in-len1-up.len_at_least c.play-item.is in
    let ended = finished c.args.before.end (sym c.is_finished.ensures ∙ c.if-not-is_finished.false) in
    let rest = take (length plays - 1) (drop 1 plays) in
    gains_fault (g.R.Runner.may c.args.setup.now.runner.now) fleet c.args.setup.now.forks plays play rest split c.args.before ended roll begins c.args.done.now.items c.keep-in-Ok.new.items.items c.keep-in-Ok.new.items.items c.keep-in-Ok.ensures.items c.args.history c.run_one-run.result.1
    c.run_one-run.result.1 c.in-Err-run.fault (err_of _ c.run_one-run.result.0 c.in-Err-run.fault c.in-Err-run.is c.run_one-run.ensures.err)

pub returns-in-Err-clause-err : goal.returns-in-Err-clause-err
returns-in-Err-clause-err g t c =
    let may = g.R.Runner.may c.args.setup.now.runner.now in
    let fleet = c.args.setup.now.fleet.now in
    let play = c.play-item.result in
    let plays = c.args.setup.now.plays.now in
    let rest = take (length plays - 1) (drop 1 plays) in
    let split = plays_split plays play c.in-len1-up.len_at_least c.play-item.is in
    let old = c.args.done.now.items in
    let new = c.keep-in-Err.new.items.items in
    let last = c.before_a_log-fault.result in
    let ended = finished c.args.before.end (sym c.is_finished.ensures ∙ c.if-not-is_finished.false) in
    let not = subst (λ (l : List Status). IsNotBegun l last []) (c.copy_into-statuses.ensures ∙ c.as_slice.ensures.value) c.before_a_log-fault.ensures in
    let there = breaks_there may fleet c.args.setup.now.forks play rest c.args.before old new last [] ended (inr not) c.keep-in-Err.ensures.items in
    gains_none c.args.history c.args.history refl (subst (λ (l : List Play). HasBrokenAfter may fleet c.args.setup.now.forks l c.args.before old new last []) (sym split) there)
