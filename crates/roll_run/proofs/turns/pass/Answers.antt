use Rattle.std.proofs.Common.{◌≡◌, ◌<◌, List, length, sym, ap, ◌∙◌, subst, None, refl}
use Rattle.domains.specs.Ids.{host_numbers}
use Rattle.batch_plan.specs.Counts.{Counted}
use Rattle.fleet_states.proofs.HostLemmas.{length-host_numbers}
use Rattle.batch_plan.specs.Places.{told_places}
use Rattle.play_forecast.specs.declared.boundary.Boundary.{Boundary}
use Rattle.play_forecast.specs.Courses.{end_here, end_with, next_batch}
use Rattle.event_log.specs.States.{failures}
use Rattle.roll_core.specs.Views.{KernelView, state_of}
use Rattle.roll_run.specs.Inside.{HasBroken, HasRun, grown}
use Rattle.roll_core.specs.Tellings.{halt_in}
use Rattle.roll_run.proofs.Counting.{told_fleet}
use Rattle.roll_run.proofs.Ending.{asked_at, broken_at, ends_here, last_opened}
use Rattle.roll_run.specs.Journals.{closing}
use Rattle.roll_run.proofs.Keeping.{keeps_batch}
use Rattle.roll_run.proofs.Turning.{is_behind, last_is, opens_some, same_behind, same_by, still_so}
use Rattle.roll_run.proofs.turns.pass.Goals as goal

pub run_batch-requires-clause-some : goal.run_batch-requires-clause-some
run_batch-requires-clause-some g c κs within =
    let noted = c.requires.noted in
    let here = c.index-boundaries-boundaries.is ∙ last_is c.args.boundaries.now noted.behind noted.boundary c.index-boundaries-boundaries.result noted.boundaries_are in
    let goes_on = ap (end_here c.args.before) (sym here) ∙ sym c.end_at.ensures ∙ c.in-None.is in
    let batch = c.next_batch.ensures ∙ ap (λ (b : Boundary). next_batch b.answer) here in
    subst (λ n. 0 < n) (ap length (sym batch) ∙ length-host_numbers c.next_batch.result.now) (opens_some c.args.board.kernel.fleet noted.at.bound c.args.before noted.boundary noted.at.best goes_on)

pub run_batch-requires-clause-rests : goal.run_batch-requires-clause-rests
run_batch-requires-clause-rests g c κs within = c.requires.noted.at.phase

pub returns-in-Some-clause-turned : goal.returns-in-Some-clause-turned
returns-in-Some-clause-turned g c =
    let noted = c.requires.noted in
    let here = c.index-boundaries-boundaries.is ∙ last_is c.args.boundaries.now noted.behind noted.boundary c.index-boundaries-boundaries.result noted.boundaries_are in
    ends_here c.args.board.kernel noted.behind c.args.boundaries.now noted.boundary c.args.before c.in-Some.end noted.at noted.boundaries_are (ap (end_here c.args.before) (sym here) ∙ sym c.end_at.ensures ∙ c.in-Some.is)

pub returns-in-Ok-clause-turned : goal.returns-in-Ok-clause-turned
returns-in-Ok-clause-turned g c =
    let noted = c.requires.noted in
    let here = c.index-boundaries-boundaries.is ∙ last_is c.args.boundaries.now noted.behind noted.boundary c.index-boundaries-boundaries.result noted.boundaries_are in
    let goes_on = ap (end_here c.args.before) (sym here) ∙ sym c.end_at.ensures ∙ c.in-None.is in
    let batch = c.next_batch.ensures ∙ ap (λ (b : Boundary). next_batch b.answer) here in
    let again = c.next_batch-in-Ok.ensures ∙ ap (λ (b : Boundary). next_batch b.answer) here in
    let run = subst (λ hosts. HasRun hosts c.args.board c.in-Ok.board) batch c.in-Ok.ensures.ok in
    let told = c.close_batch-end.ensures.counts ∙ ap (λ hosts. told_places hosts (state_of c.close_batch-end.new.board.kernel).statuses c.args.domains.now) again in
    let size = sym (length-host_numbers c.next_batch-in-Ok.result.now) ∙ ap length again in
    let ended = c.close_batch-end.ensures.end ∙ ap (end_with (halt_in (state_of c.in-Ok.board.kernel).phase) (failures (state_of c.in-Ok.board.kernel))) size in
    is_behind c.args.board c.in-Ok.board c.close_batch-end.new.board noted.behind noted.boundary c.args.before noted.at goes_on run
    c.close_batch-end.ensures.event c.close_batch-end.ensures.legal c.args.boundaries.now c.args.domains.now c.close_batch-end.new.domains
    c.close_batch-end.result noted.boundaries_are c.requires.counts told ended

pub returns-in-Ok-clause-kept : goal.returns-in-Ok-clause-kept
returns-in-Ok-clause-kept g c =
    let noted = c.requires.noted in
    let here = c.index-boundaries-boundaries.is ∙ last_is c.args.boundaries.now noted.behind noted.boundary c.index-boundaries-boundaries.result noted.boundaries_are in
    let batch = c.next_batch.ensures ∙ ap (λ (b : Boundary). next_batch b.answer) here in
    let again = c.next_batch-in-Ok.ensures ∙ ap (λ (b : Boundary). next_batch b.answer) here in
    let run = subst (λ hosts. HasRun hosts c.args.board c.in-Ok.board) batch c.in-Ok.ensures.ok in
    let mid = c.run_batch.new.keeper in
    let after = c.close_batch-end.new.keeper in
    let now = (state_of c.close_batch-end.new.board.kernel).statuses in
    let kept = subst (λ hosts. g.K.Recorder.keeps mid after c.in-Ok.board.kernel.fleet (closing hosts now)) again c.close_batch-end.ensures.kept in
    keeps_batch g.K.Recorder.keeps c.args.board c.in-Ok.board c.close_batch-end.new.board (next_batch noted.boundary.answer) c.args.keeper.now mid after run
    c.close_batch-end.ensures.event c.close_batch-end.ensures.legal c.in-Ok.ensures.kept kept

pub returns-in-Ok-clause-same : goal.returns-in-Ok-clause-same
returns-in-Ok-clause-same g c =
    let noted = c.requires.noted in
    let here = c.index-boundaries-boundaries.is ∙ last_is c.args.boundaries.now noted.behind noted.boundary c.index-boundaries-boundaries.result noted.boundaries_are in
    let goes_on = ap (end_here c.args.before) (sym here) ∙ sym c.end_at.ensures ∙ c.in-None.is in
    let batch = c.next_batch.ensures ∙ ap (λ (b : Boundary). next_batch b.answer) here in
    let run = subst (λ hosts. HasRun hosts c.args.board c.in-Ok.board) batch c.in-Ok.ensures.ok in
    same_behind c.args.board c.in-Ok.board c.close_batch-end.new.board noted.behind noted.boundary c.args.before noted.at goes_on run c.close_batch-end.ensures.event c.close_batch-end.ensures.legal

pub returns-in-Ok-clause-fleet : goal.returns-in-Ok-clause-fleet
returns-in-Ok-clause-fleet g c =
    ap (λ (d : Counted). d.fleet) c.close_batch-end.ensures.counts ∙ told_fleet (host_numbers c.next_batch-in-Ok.result.now) (state_of c.close_batch-end.new.board.kernel).statuses c.args.domains.now

pub returns-in-Err-clause-turned : goal.returns-in-Err-clause-turned
returns-in-Err-clause-turned g c =
    let noted = c.requires.noted in
    let here = c.index-boundaries-boundaries.is ∙ last_is c.args.boundaries.now noted.behind noted.boundary c.index-boundaries-boundaries.result noted.boundaries_are in
    let goes_on = ap (end_here c.args.before) (sym here) ∙ sym c.end_at.ensures ∙ c.in-None.is in
    let batch = c.next_batch.ensures ∙ ap (λ (b : Boundary). next_batch b.answer) here in
    let broken = subst (λ hosts. HasBroken hosts c.args.board c.in-Err.board) batch c.in-Err.ensures.err in
    let forks = c.requires.forks ∙ sym (ap (λ (k : KernelView). k.forks) broken.kernel) in (
      broken_at c.args.board c.in-Err.board noted.behind c.args.boundaries.now noted.boundary c.args.before noted.at noted.boundaries_are goes_on broken,
      record {
        why_is = still_so c.in-Err.board.kernel.forks c.args.front.now.forks (state_of c.in-Err.board.kernel) c.in-Err.why forks c.in-Err.ensures.why;
        asked = asked_at c.args.board c.in-Err.board noted.behind c.args.boundaries.now noted.boundary c.args.before c.in-Err.why noted.at noted.boundaries_are c.in-Err.ensures.unopened c.in-Err.ensures.unkept;
        last = last_opened c.args.board c.in-Err.board noted.behind c.args.boundaries.now noted.boundary c.args.before noted.at noted.boundaries_are broken;
      },
    )

pub returns-in-Err-clause-same : goal.returns-in-Err-clause-same
returns-in-Err-clause-same g c =
    let broken = c.in-Err.ensures.err in
    same_by c.args.board c.in-Err.board (grown c.args.board.kernel broken.more) refl broken.kernel broken.context
