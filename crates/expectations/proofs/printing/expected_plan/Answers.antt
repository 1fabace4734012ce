use Rattle.std.proofs.Common.{◌≡◌, ◌<◌, List, length, refl, subst, sym, ◌∙◌, arith}
use Rattle.std.proofs.KnownBytes.{Keeps-refl}
use Rattle.bounded_io.specs.Sending.{SendsFirst}
use Rattle.domains.specs.Ids.{host_numbers}
use Rattle.group_tree.specs.declared.ids.HostId.{HostId}
use Rattle.play_model.specs.declared.play.Play.{Play}
use Rattle.plan_command.proofs.PlayLemmas.{has_play}
use Rattle.plan_command.proofs.TextLemmas.{breaks_plan, refused_is_true}
use Rattle.recap.specs.PlanText.{plan_text}
use Rattle.expectations.proofs.ExpectingLemmas.{is_plan_in, misses_plan, plans_as}
use Rattle.expectations.proofs.printing.expected_plan.Goals as goal

pub returns-in-Err-read_known_plays-clause-err : goal.returns-in-Err-read_known_plays-clause-err
returns-in-Err-read_known_plays-clause-err g c =
    refused_is_true c.args.inventory.now c.args.playbook.now _ _ c.in-Ok.fleet c.in-Ok.ensures.ok c.in-Err-read_known_plays.fault
    (Keeps-refl (g.W.Write.contents c.args.out.now)) c.in-Err-read_known_plays.ensures.err

pub index-requires : goal.index-requires
index-requires g c =
    let plays : List Play = c.in-Ok-read_known_plays.plays.items in
    let some : 0 < length plays = has_play 16 c.args.playbook.now plays c.in-Ok-read_known_plays.ensures.ok.reads in
    omega (arith, some, c.in-Ok-read_known_plays.plays.ok)

pub returns-in-Ok-judged-clause-ok : goal.returns-in-Ok-judged-clause-ok
returns-in-Ok-judged-clause-ok g c =
    let plays : List Play = c.in-Ok-read_known_plays.plays.items in
    let read = c.in-Ok-read_known_plays.ensures.ok in
    let planned = c.in-Ok-plan_play.planned in
    let plan = is_plan_in c.args.inventory.now c.args.playbook.now c.in-Ok.fleet plays c.index.result.now planned.answer (host_numbers planned.held.items) c.in-Ok.ensures.ok read
    (has_play 16 c.args.playbook.now plays read.reads) c.index.ensures c.in-Ok-plan_play.ensures.ok in
    plans_as c.args.inventory.now c.args.playbook.now _ _ _ _ c.in-Ok.fleet planned.answer planned.held.items c.as_slice.result.now c.as_slice-in-Ok-judged.result.now c.end_of.result plan
    c.as_slice.ensures.value c.as_slice-in-Ok-judged.ensures.value c.in-Ok-write_plan.ensures c.end_of.ensures
    (sym c.unmet_in_plan.ensures ∙ sym c.in-Ok-owned.ensures ∙ c.in-Ok-judged.ensures.ok)

pub returns-in-Ok-write_plan-clause-err : goal.returns-in-Ok-write_plan-clause-err
returns-in-Ok-write_plan-clause-err g c =
    let plays : List Play = c.in-Ok-read_known_plays.plays.items in
    let read = c.in-Ok-read_known_plays.ensures.ok in
    let planned = c.in-Ok-plan_play.planned in
    let plan = is_plan_in c.args.inventory.now c.args.playbook.now c.in-Ok.fleet plays c.index.result.now planned.answer (host_numbers planned.held.items) c.in-Ok.ensures.ok read
    (has_play 16 c.args.playbook.now plays read.reads) c.index.ensures c.in-Ok-plan_play.ensures.ok in
    misses_plan c.args.inventory.now c.args.playbook.now _ _ _ _ c.in-Ok.fleet planned.answer planned.held.items c.as_slice.result.now c.in-Err-judged.fault plan
    c.as_slice.ensures.value c.in-Ok-write_plan.ensures (sym c.unmet_in_plan.ensures ∙ sym c.in-Ok-owned.ensures) c.in-Err-judged.ensures.err

pub returns-clause-err : goal.returns-clause-err
returns-clause-err g c =
    let plays : List Play = c.in-Ok-read_known_plays.plays.items in
    let read = c.in-Ok-read_known_plays.ensures.ok in
    let planned = c.in-Ok-plan_play.planned in
    let plan = is_plan_in c.args.inventory.now c.args.playbook.now c.in-Ok.fleet plays c.index.result.now planned.answer (host_numbers planned.held.items) c.in-Ok.ensures.ok read
    (has_play 16 c.args.playbook.now plays read.reads) c.index.ensures c.in-Ok-plan_play.ensures.ok in
    breaks_plan c.args.inventory.now c.args.playbook.now _ _ c.in-Ok.fleet planned.answer (host_numbers planned.held.items) c.in-Err-write_plan.fault.written c.in-Ok.ensures.ok plan.plan
    (subst (λ (held : List HostId). SendsFirst (g.W.Write.contents c.args.out.now) (g.W.Write.contents c.write_plan.new.out) (plan_text c.in-Ok.fleet planned.answer (host_numbers held)) c.in-Err-write_plan.fault.written)
    c.as_slice.ensures.value c.in-Err-write_plan.ensures)
