use Rattle.std.proofs.Common.{◌≡◌, ◌<◌, List, ap, sym, ◌∙◌, refl, length, nat_lt, subst, arith, true, false}
use Rattle.std.specs.List.{count_by}
use Rattle.std.proofs.lemmas.Bool.{ltb-true}
use Rattle.std.proofs.lemmas.List.{with_items_is}
use Rattle.group_tree.specs.declared.ids.HostId.{HostId}
use Rattle.fleet_states.proofs.HostLemmas.{length-host_numbers}
use Rattle.play_model.specs.declared.play.Play.{Play}
use Rattle.host_track.specs.declared.summary.Summary.{Summary}
use Rattle.event_log.specs.States.{has_row, phase_after}
use Rattle.event_log.specs.Turns.{failed_at, is_within}
use Rattle.event_log.specs.Works.{phase_by, phase_of}
use Rattle.event_log.proofs.DueLemmas.{failures_alike, lined_in_batch}
use Rattle.event_log.proofs.LineUpLemmas.{lined_moved}
use Rattle.event_log.proofs.WorkLemmas.{later_is}
use Rattle.event_log.proofs.PassLemmas.{ends_with, phase_alike, work_ended, work_goes_on}
use Rattle.event_log.proofs.work.BatchWork.pass.Goals as goal

pub returns-in_default : goal.returns-in_default
returns-in_default c =
    let old = c.args.self.now in
    let step = c.args.step in
    λ roll state work may nobody fresh.
    let counted = c.failures_in-failures.ensures.count ∙ ap (λ (l : List Summary). count_by (λ (host : HostId). failed_at l host.index) c.as_slice-2.result.now) c.as_slice.ensures.value in
    let failed = failures_alike roll state old work c.as_slice-2.result.now c.failures_in-failures.result c.as_slice-2.ensures.value counted in
    let long : c.len.result ≡ length old.batch.items = omega (arith, c.len.ensures, old.batch.ok) in
    let sized : c.len.result ≡ length state.batch = long ∙ sym (length-host_numbers old.batch.items) ∙ ap length work.batch in
    let stage : phase_of c.stage_after-self.result ≡ phase_after roll.play state step =
    c.stage_after-self.ensures.stage ∙ ap (λ (p : Play). phase_by p step c.failures_in-failures.result c.len.result) work.play
    ∙ phase_alike roll.play state step c.failures_in-failures.result c.len.result failed sized in
    let ends = ends_with roll.play state step c.stage_after-self.result stage c.in_default.not-Working in
    work_ended roll state old _ step work (record { play = refl; summaries = refl; out = refl }) refl may nobody stage ends.0 ends.1 refl refl

pub returns-in-Working : goal.returns-in-Working
returns-in-Working c =
    let old = c.args.self.now in
    let step = c.args.step in
    let later = c.in-Working.later in
    let turns = with_items_is old.turns c.enqueue_due-self.new.turns (omega (arith, c.enqueue_due-self.ensures.all, c.as_mut_slice-in-Working.ensures.len)) in
    let line = with_items_is old.line c.enqueue_due-self.new.line (omega (arith, c.enqueue_due-self.ensures.places, c.as_mut_slice.ensures.len)) in
    let lined = lined_moved old.play.now later _ old.summaries.items _ old.batch.items _ old.turns.items _ _ _ _ c.enqueue_due-self.result
    c.as_slice-in-Working.ensures.value c.as_slice-in-Working-2.ensures.value c.as_mut_slice-in-Working.ensures.value (sym turns) (sym line)
    c.enqueue_due-self.ensures.due in
    λ roll state work may nobody fresh.
    let counted = c.failures_in-failures.ensures.count ∙ ap (λ (l : List Summary). count_by (λ (host : HostId). failed_at l host.index) c.as_slice-2.result.now) c.as_slice.ensures.value in
    let failed = failures_alike roll state old work c.as_slice-2.result.now c.failures_in-failures.result c.as_slice-2.ensures.value counted in
    let long : c.len.result ≡ length old.batch.items = omega (arith, c.len.ensures, old.batch.ok) in
    let sized : c.len.result ≡ length state.batch = long ∙ sym (length-host_numbers old.batch.items) ∙ ap length work.batch in
    let stage : phase_of c.stage_after-self.result ≡ phase_after roll.play state step =
    c.stage_after-self.ensures.stage ∙ ap (λ (p : Play). phase_by p step c.failures_in-failures.result c.len.result) work.play
    ∙ phase_alike roll.play state step c.failures_in-failures.result c.len.result failed sized in
    let goes_on = sym stage ∙ ap phase_of c.in-Working.is in
    let is_later = later_is roll.play state step later goes_on in
    let inside : nat_lt later (length old.play.now.steps.items) ≡ true = sym (ap (is_within (length old.play.now.steps.items)) c.in-Working.is) ∙ c.stage_after-self.ensures.within in
    let within : later < length roll.play.steps.items = subst (λ (p : Play). later < length p.steps.items) work.play (ltb-true later (length old.play.now.steps.items) inside) in
    work_goes_on roll state old _ step work (record { play = refl; summaries = refl; out = refl }) refl may nobody stage later goes_on
    (λ host here. subst (λ n. has_row (state.rows host) n ≡ false) (sym is_later) (fresh host here))
    (lined_in_batch roll state old work later old.turns.items _ _ within lined)
