use Rattle.std.proofs.Common.{◌<◌, List, length, sym, ap, ◌∙◌, subst, arith}
use Rattle.std.proofs.KnownBytes.{Keeps-refl}
use Rattle.group_tree.specs.declared.ids.HostId.{HostId}
use Rattle.domains.specs.Ids.{host_numbers}
use Rattle.play_model.specs.declared.play.Play.{Play}
use Rattle.plan_command.proofs.PlayLemmas.{has_play}
use Rattle.plan_command.specs.Ends.{end_of}
use Rattle.plan_command.specs.declared.end.End.{End}
use Rattle.plan_occupancy.specs.Inside.{planned_text}
use Rattle.plan_occupancy.specs.PlanSurveys.{IsSurveyedPlan}
use Rattle.plan_occupancy.proofs.TextLemmas.{is_surveyed, refused_beside}
use Rattle.plan_occupancy.proofs.plan.surveyed_plan.Goals as goal

pub returns-in-Err-read_known_plays-clause-err : goal.returns-in-Err-read_known_plays-clause-err
returns-in-Err-read_known_plays-clause-err g c =
    let keeps = Keeps-refl (g.W.Write.contents c.args.out.now) in
    let fault = c.in-Err-read_known_plays.fault in
    refused_beside c.args.inventory.now c.args.playbook.now c.args.paint _ _ c.in-Ok.fleet c.in-Ok.ensures.ok fault keeps c.in-Err-read_known_plays.ensures.err

pub index-requires : goal.index-requires
index-requires g c =
    let plays : List Play = c.in-Ok-read_known_plays.plays.items in
    let some : 0 < length plays = has_play 16 c.args.playbook.now plays c.in-Ok-read_known_plays.ensures.ok.reads in
    omega (arith, some, c.in-Ok-read_known_plays.plays.ok)

pub returns-in-Ok-send_plan-clause-ok : goal.returns-in-Ok-send_plan-clause-ok
returns-in-Ok-send_plan-clause-ok g c =
    let fleet = c.in-Ok.fleet in
    let plays : List Play = c.in-Ok-read_known_plays.plays.items in
    let plan = c.in-Ok-survey_play.plan in
    let some = has_play 16 c.args.playbook.now plays c.in-Ok-read_known_plays.ensures.ok.reads in
    let ends = c.end_of.ensures ∙ ap (λ (l : List HostId). end_of plan.planned.answer (host_numbers l)) c.as_slice.ensures.value in
    let play = c.index.result.now in
    let read = c.in-Ok-read_known_plays.ensures.ok in
    let is = is_surveyed c.args.inventory.now c.args.playbook.now c.args.paint fleet plays play plan c.in-Ok.ensures.ok read some c.index.ensures c.in-Ok-survey_play.ensures in
    record {
      text = planned_text c.args.paint fleet plan;
      is = subst (λ (end : End). IsSurveyedPlan c.args.inventory.now c.args.playbook.now c.args.paint (planned_text c.args.paint fleet plan) end) (sym ends) is;
      written = c.in-Ok-send_plan.ensures;
    }

pub returns-clause-err : goal.returns-clause-err
returns-clause-err g c =
    let fleet = c.in-Ok.fleet in
    let plays : List Play = c.in-Ok-read_known_plays.plays.items in
    let plan = c.in-Ok-survey_play.plan in
    let some = has_play 16 c.args.playbook.now plays c.in-Ok-read_known_plays.ensures.ok.reads in
    let play = c.index.result.now in
    let read = c.in-Ok-read_known_plays.ensures.ok in
    record {
      text = planned_text c.args.paint fleet plan;
      end = end_of plan.planned.answer (host_numbers plan.planned.held.items);
      is = is_surveyed c.args.inventory.now c.args.playbook.now c.args.paint fleet plays play plan c.in-Ok.ensures.ok read some c.index.ensures c.in-Ok-survey_play.ensures;
      written = c.in-Err-send_plan.ensures;
    }
