use Rattle.std.proofs.Common.{◌≡◌, length, sym, ap, ◌∙◌, refl, inl, arith, Some}
use Rattle.play_model.specs.declared.play.Play.{Play}
use Rattle.play_model.specs.declared.step.Step.{Step}
use Rattle.host_track.specs.Asking.{asks}
use Rattle.host_track.specs.Tracks.{known_after, step_at}
use Rattle.event_log.specs.Works.{IsGiven}
use Rattle.event_log.proofs.ClaimLemmas.{asks_of, found, may_claim, takes_of, work_asked, work_taken}
use Rattle.event_log.proofs.LineLemmas.{at_place, line_below, none_free, none_left}
use Rattle.event_log.proofs.StateLemmas.{on_err, some_same}
use Rattle.event_log.proofs.work.BatchWork.claim.Goals as goal

pub returns-in_default : goal.returns-in_default
returns-in_default c =
    record {
      ok = λ roll state work forks. record { why = inl (none_free roll state c.args.self.now work c.in_default.not-Working); work = work };
      err = λ roll state work. tt;
    }

pub returns-in_default-host_at-clause-ok : goal.returns-in_default-host_at-clause-ok
returns-in_default-host_at-clause-ok c =
    λ roll state work forks. record { why = inl (none_left roll state c.args.self.now work (omega (arith, c.in_default-host_at.ensures, ap length c.as_slice.ensures.value))); work = work }

pub index_mut-requires : goal.index_mut-requires
index_mut-requires c =
    let old = c.args.self.now in
    let at = at_place old.line.items _ old.next c.in-Some.host c.as_slice.ensures.value c.in-Some.ensures in
    omega (arith, line_below (length old.summaries.items) old.line.items old.next c.in-Some.host old.queued at.0 at.1, old.summaries.ok)

pub returns-in_err-asked-clause-err : goal.returns-in_err-asked-clause-err
returns-in_err-asked-clause-err c =
    let old = c.args.self.now in
    let at = at_place old.line.items _ old.next c.in-Some.host c.as_slice.ensures.value c.in-Some.ensures in
    λ roll state work. on_err c.from_residual.result
    (work_asked roll state old _ c.in-Some.host.index c.index_mut.result.now c.ask.new.self work
    (asks_of old _ c.in-Some.host c.index_mut.result.now c.ask.new.self at c.index_mut.ensures.value refl refl refl refl refl refl refl refl)
    c.in_err-asked.ensures.keeps)

pub returns-in_err-copy-clause-err : goal.returns-in_err-copy-clause-err
returns-in_err-copy-clause-err c =
    let old = c.args.self.now in
    let at = at_place old.line.items _ old.next c.in-Some.host c.as_slice.ensures.value c.in-Some.ensures in
    λ roll state work. on_err c.from_residual-in_err-copy.result
    (work_asked roll state old _ c.in-Some.host.index c.index_mut.result.now c.ask.new.self work
    (asks_of old _ c.in-Some.host c.index_mut.result.now c.ask.new.self at c.index_mut.ensures.value refl refl refl refl refl refl refl refl)
    c.in_ok-asked.ensures.keeps)

pub returns-in_err-given-clause-err : goal.returns-in_err-given-clause-err
returns-in_err-given-clause-err c =
    let old = c.args.self.now in
    let at = at_place old.line.items _ old.next c.in-Some.host c.as_slice.ensures.value c.in-Some.ensures in
    λ roll state work. on_err c.from_residual-in_err-given.result
    (work_asked roll state old _ c.in-Some.host.index c.index_mut.result.now c.ask.new.self work
    (asks_of old _ c.in-Some.host c.index_mut.result.now c.ask.new.self at c.index_mut.ensures.value refl refl refl refl refl refl refl refl)
    c.in_ok-asked.ensures.keeps)

pub index_mut-requires-2 : goal.index_mut-requires-2
index_mut-requires-2 c =
    let old = c.args.self.now in
    let at = at_place old.line.items _ old.next c.in-Some.host c.as_slice.ensures.value c.in-Some.ensures in
    omega (arith, line_below (length old.summaries.items) old.line.items old.next c.in-Some.host old.queued at.0 at.1, old.all, old.turns.ok)

pub returns-clause-ok : goal.returns-clause-ok
returns-clause-ok c =
    let old = c.args.self.now in
    let host = c.in-Some.host in
    let before = c.index_mut.result.now in
    let after = c.ask.new.self in
    let at = at_place old.line.items _ old.next host c.as_slice.ensures.value c.in-Some.ensures in
    let takes = takes_of old _ host c.in_ok-copy.copy before after at c.index_mut.ensures.value refl refl refl refl refl refl refl refl in
    λ roll state work forks.
    let step = c.in-Working.step in
    let is : step_at roll.play step ≡ Some c.step_at-task.result.now = sym (ap (λ (p : Play). step_at p step) work.play) ∙ c.step_at-task.ensures.value in
    let asked = c.in_ok-asked.ensures.asked roll.play (roll.known host.index) (state.rows host.index) (work.summaries host.index before takes.was) in
    let given : IsGiven roll state host.index after.vars c.in_ok-copy.copy c.step_at-task.result.now = record { asks = c.in_ok-copy.ensures ∙ asked; place = c.in_ok-asked.ensures.place } in
    record {
      first = found roll state old _ host.index step c.in_ok-copy.copy before after work takes c.in-Working.is;
      may = may_claim roll state old _ host.index step c.in_ok-copy.copy before after work takes c.in-Working.is (omega (arith, forks, work.count, c.if-self-forks.false));
      asks = λ task named. c.in_ok-given.ensures.same ∙ asked
          ∙ ap (λ (t : Step). asks (known_after roll.play (roll.known host.index) (state.rows host.index)) t)
          (some_same c.step_at-task.result.now task (sym is ∙ named));
      row = c.in_ok-given.ensures.row;
      work = work_taken roll state old _ host.index step c.in_ok-copy.copy before after work takes c.in-Working.is c.in_ok-asked.ensures.keeps c.step_at-task.result.now is given;
    }
