use Rattle.std.proofs.Common.{◌≡◌, suc, ◌-◌, List, sym, ap, ◌∙◌, refl, subst, arith, Some}
use Rattle.play_model.specs.declared.play.Play.{Play}
use Rattle.play_model.specs.declared.step.Step.{Step}
use Rattle.host_vars.specs.declared.vars.Vars.{Vars}
use Rattle.host_track.specs.Endings.{ending_of}
use Rattle.host_track.specs.Hosts.{Known, known_of}
use Rattle.host_track.specs.Judging.{finding_of}
use Rattle.host_track.specs.Undefined.{undefined_in}
use Rattle.host_track.specs.declared.finding.Finding.{Finding}
use Rattle.host_track.specs.Tracks.{Entry, has_failed, known_after, step_at}
use Rattle.event_log.specs.States.{rows_with}
use Rattle.event_log.proofs.WorkLemmas.{own_rows}
use Rattle.event_log.proofs.EnterLemmas.{HasEntered, entered_shows, enters_of, work_entered}
use Rattle.event_log.proofs.StateLemmas.{got_at, some_same}
use Rattle.event_log.proofs.work.BatchWork.enter.Goals as goal

pub index_mut-summary-requires : goal.index_mut-summary-requires
index_mut-summary-requires c = omega (arith, c.requires.within, c.args.self.now.summaries.ok)

pub index_mut-requires : goal.index_mut-requires
index_mut-requires c = omega (arith, c.requires.within, c.args.self.now.all, c.args.self.now.turns.ok)

pub returns-clause-work : goal.returns-clause-work
returns-clause-work c =
    let old = c.args.self.now in
    let host = c.args.host in
    let before = c.index_mut-summary.result.now in
    let after = c.enter-finding.new.self in
    let less : suc (old.out - 1) ≡ old.out = omega (arith, c.requires.out) in
    λ roll state work may.
    let ending = ending_of c.args.outcome.now in
    let is : step_at roll.play c.args.step ≡ Some c.step_at-task.result.now = sym (ap (λ (p : Play). step_at p c.args.step) work.play) ∙ c.step_at-task.ensures.value in
    let same : c.step_at-task.result.now ≡ may.task = some_same c.step_at-task.result.now may.task (sym is ∙ may.is) in
    let entered : HasEntered may.task ending before after = subst (λ (t : Step). HasEntered t ending before after) same
    (λ play known entries place shows at. c.enter-finding.ensures.row play known entries place shows at) in
    work_entered roll state old _ host.index c.args.step ending before after work
    (enters_of old _ host before after c.requires.within c.index_mut-summary.ensures.value refl refl refl refl refl refl refl less) may entered

pub returns-clause-failed : goal.returns-clause-failed
returns-clause-failed c =
    let old = c.args.self.now in
    let host = c.args.host in
    let before = c.index_mut-summary.result.now in
    let after = c.enter-finding.new.self in
    λ roll state work may.
    let ending = ending_of c.args.outcome.now in
    let is : step_at roll.play c.args.step ≡ Some c.step_at-task.result.now = sym (ap (λ (p : Play). step_at p c.args.step) work.play) ∙ c.step_at-task.ensures.value in
    let same : c.step_at-task.result.now ≡ may.task = some_same c.step_at-task.result.now may.task (sym is ∙ may.is) in
    let entered : HasEntered may.task ending before after = subst (λ (t : Step). HasEntered t ending before after) same
    (λ play known entries place shows at. c.enter-finding.ensures.row play known entries place shows at) in
    let rows : List Entry = rows_with roll host.index (state.rows host.index) c.args.step ending in
    let was = got_at old.summaries.items host.index before c.requires.within c.index_mut-summary.ensures.value in
    let shows = entered_shows roll state host.index c.args.step ending before after may (work.summaries host.index before was) entered in
    c.has_failed-failed.ensures.failed roll.play (roll.known host.index) rows shows ∙ sym (ap has_failed (own_rows host.index rows state.rows host.index refl))

pub returns-clause-found : goal.returns-clause-found
returns-clause-found c =
    let old = c.args.self.now in
    let host = c.args.host in
    let before = c.index_mut-summary.result.now in
    λ roll state work task named.
    let ending = ending_of c.args.outcome.now in
    let is : step_at roll.play c.args.step ≡ Some c.step_at-task.result.now = sym (ap (λ (p : Play). step_at p c.args.step) work.play) ∙ c.step_at-task.ensures.value in
    let same : c.step_at-task.result.now ≡ task = some_same c.step_at-task.result.now task (sym is ∙ named) in
    let was = got_at old.summaries.items host.index before c.requires.within c.index_mut-summary.ensures.value in
    let known = (work.summaries host.index before was).known in
    record {
      judged = ap (λ (f : Finding). f.judged) c.enter-finding.ensures.found ∙ ap (λ (t : Step). (finding_of (known_of before.vars) t ending).judged) same
          ∙ ap (λ (k : Known). (finding_of k task ending).judged) known;
      undefined = c.undefined_name-undefined.ensures ∙ ap (λ (v : Vars). undefined_in (known_of v) c.step_at-task.result.now ending) c.vars.ensures
          ∙ ap (λ (t : Step). undefined_in (known_of before.vars) t ending) same ∙ ap (λ (k : Known). undefined_in k task ending) known;
    }
