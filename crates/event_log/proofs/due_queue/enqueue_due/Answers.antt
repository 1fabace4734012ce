use Rattle.std.proofs.Common.{◌≡◌, ◌-◌, ◌<◌, List, length, get_or, drop, set, sym, ap, ◌∙◌, refl, subst, arith}
use Rattle.std.proofs.lemmas.List.{length-set}
use Rattle.std.proofs.lemmas.Option.{get_or_from_slice_get, slice_get-get_or}
use Rattle.group_tree.specs.declared.ids.HostId.{HostId}
use Rattle.fleet_index.specs.NumberLists.{are_below}
use Rattle.domains.specs.Ids.{host_numbers}
use Rattle.fleet_states.proofs.HostLemmas.{host_below}
use Rattle.event_log.specs.declared.turn.Turn.{Turn}
use Rattle.event_log.specs.declared.turn.Turn.TheVariants.{Due}
use Rattle.event_log.specs.Turns.{HaveLinedUp, due_at}
use Rattle.event_log.proofs.LineLemmas.{line_over}
use Rattle.event_log.proofs.LineUpLemmas.{below_set, lined_due, lined_none, lined_over}
use Rattle.event_log.proofs.due_queue.enqueue_due.Goals as goal

pub loop-place-init : goal.loop-place-init
loop-place-init c =
    record {
      all = refl;
      places = refl;
      queued = c.requires.queued;
      inside = omega arith;
      room = omega arith;
      lined = lined_none (due_at c.args.play.now c.args.step c.args.summaries.now) c.args.batch.now c.args.line.now c.args.turns.now
          (length c.args.batch.now) (length c.args.batch.now) (line_over c.args.batch.now (length c.args.batch.now) (omega arith))
          (line_over c.args.line.now (length c.args.batch.now) (omega (arith, c.requires.places)));
    }

pub loop-place-preserved-then-is_due_on : goal.loop-place-preserved-then-is_due_on
loop-place-preserved-then-is_due_on c =
    let invariant = c.loop-place.invariant in
    let batch = c.args.batch.now in
    let line = c.loop-place.line in
    let place = c.loop-place.place in
    let first = c.loop-place.first in
    let none : HostId = record { index = 0 } in
    let host : HostId = get_or batch (place - 1) none in
    let due = due_at c.args.play.now c.args.step c.args.summaries.now in
    let inside : place - 1 < length batch = omega (arith, c.loop-place-test.true, invariant.room, invariant.inside) in
    let below : host.index < length c.args.summaries.now = host_below (length c.args.summaries.now) batch (place - 1) none c.requires.within inside in
    let named : get_or batch (place - 1) host ≡ host = get_or_from_slice_get batch (place - 1) host host (slice_get-get_or batch (place - 1) none inside) in
    let lined = lined_due due batch line place first host c.args.turns.now c.loop-place.turns (omega (arith, c.loop-place-test.true))
    (omega (arith, invariant.room, invariant.inside)) named invariant.lined (sym c.is_due_on.ensures ∙ c.if-is_due_on.true)
    (omega (arith, below, invariant.all, c.requires.all)) (omega (arith, c.loop-place-test.true, invariant.room))
    (omega (arith, invariant.inside, invariant.places, c.requires.places)) in
    let written = subst (λ (l : List Turn). HaveLinedUp due (host_numbers (drop (place - 1) batch)) c.args.turns.now l
    (host_numbers (drop (first - 1) (set line (first - 1) host)))) (sym c.put_due.ensures) lined in
    record {
      all = ap length c.put_due.ensures ∙ length-set c.loop-place.turns host.index Due ∙ invariant.all;
      places = ap length c.put.ensures ∙ length-set line (first - 1) host ∙ invariant.places;
      queued = ap (λ (l : List HostId). are_below (length c.args.summaries.now) (host_numbers l)) c.put.ensures ∙ below_set (length c.args.summaries.now) line (first - 1) host invariant.queued below;
      inside = omega (arith, invariant.inside);
      room = omega (arith, invariant.room);
      lined = subst (λ (l : List HostId). HaveLinedUp due (host_numbers (drop (place - 1) batch)) c.args.turns.now c.put_due.new.turns (host_numbers (drop (first - 1) l))) (sym c.put.ensures) written;
    }

pub loop-place-preserved : goal.loop-place-preserved
loop-place-preserved c =
    let invariant = c.loop-place.invariant in
    let batch = c.args.batch.now in
    let place = c.loop-place.place in
    let none : HostId = record { index = 0 } in
    let host : HostId = get_or batch (place - 1) none in
    let due = due_at c.args.play.now c.args.step c.args.summaries.now in
    let inside : place - 1 < length batch = omega (arith, c.loop-place-test.true, invariant.room, invariant.inside) in
    let named : get_or batch (place - 1) host ≡ host = get_or_from_slice_get batch (place - 1) host host (slice_get-get_or batch (place - 1) none inside) in
    record {
      all = invariant.all;
      places = invariant.places;
      queued = invariant.queued;
      inside = invariant.inside;
      room = omega (arith, invariant.room);
      lined = lined_over due batch c.loop-place.line place c.loop-place.first host c.args.turns.now c.loop-place.turns
          (omega (arith, c.loop-place-test.true)) (omega (arith, invariant.room, invariant.inside)) named invariant.lined
          (sym c.is_due_on.ensures ∙ c.if-is_due_on.false);
    }
