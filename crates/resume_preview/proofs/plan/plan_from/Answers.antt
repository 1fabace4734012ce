use Rattle.std.proofs.Common.{◌<◌, ℕ, List, length, ap, ◌∙◌, refl, subst, arith}
use Rattle.std.specs.Io.KnownBytes.{Appends}
use Rattle.bounded_io.specs.Sending.{SendsFirst}
use Rattle.domains.specs.Ids.{host_numbers}
use Rattle.group_tree.specs.declared.ids.HostId.{HostId}
use Rattle.plan_command.specs.Ends.{end_of}
use Rattle.recap.specs.PlanText.{plan_text}
use Rattle.resume_preview.specs.Asked.{question_of}
use Rattle.resume_preview.proofs.RestLemmas.{goes_first, next_boundary}
use Rattle.resume_preview.proofs.plan.plan_from.Goals as goal

pub returns-in-Ok-write_plan-clause-ok : goal.returns-in-Ok-write_plan-clause-ok
returns-in-Ok-write_plan-clause-ok g c =
    let asked = question_of c.args.asked.now in
    let resumption = c.in-Ok.resumption in
    let goes = c.in-Ok.ensures.ok in
    let play = c.index-play.result.now in
    let boundary = c.in-Ok-first_boundary.boundary in
    let held = ap (λ (l : List HostId). host_numbers l) c.as_slice.ensures.value in
    record {
      text = plan_text resumption.fleet boundary.answer (host_numbers boundary.held.items);
      is = record {
        resumption = resumption;
        boundary = boundary;
        is = next_boundary asked resumption goes play (goes_first asked resumption goes play c.in-Ok.ensures.can.play c.index-play.ensures) boundary c.in-Ok-first_boundary.ensures;
        text_is = refl;
        ends = c.end_of.ensures ∙ ap (λ (l : List HostId). end_of boundary.answer (host_numbers l)) c.as_slice-in-Ok-write_plan.ensures.value;
      };
      written = subst (λ (l : List ℕ). Appends (g.W.Write.contents c.args.out.now) (g.W.Write.contents c.write_plan.new.out) (plan_text resumption.fleet boundary.answer l)) held c.in-Ok-write_plan.ensures;
    }

pub returns-clause-err : goal.returns-clause-err
returns-clause-err g c =
    let asked = question_of c.args.asked.now in
    let resumption = c.in-Ok.resumption in
    let goes = c.in-Ok.ensures.ok in
    let play = c.index-play.result.now in
    let boundary = c.in-Ok-first_boundary.boundary in
    let held = ap (λ (l : List HostId). host_numbers l) c.as_slice.ensures.value in
    record {
      text = plan_text resumption.fleet boundary.answer (host_numbers boundary.held.items);
      end = end_of boundary.answer (host_numbers boundary.held.items);
      is = record {
        resumption = resumption;
        boundary = boundary;
        is = next_boundary asked resumption goes play (goes_first asked resumption goes play c.in-Ok.ensures.can.play c.index-play.ensures) boundary c.in-Ok-first_boundary.ensures;
        text_is = refl;
        ends = refl;
      };
      written = subst (λ (l : List ℕ). SendsFirst (g.W.Write.contents c.args.out.now) (g.W.Write.contents c.write_plan.new.out) (plan_text resumption.fleet boundary.answer l) c.in-Err-write_plan.fault.written) held
          c.in-Err-write_plan.ensures;
    }
