use Rattle.std.proofs.Common.{◌≡◌, ℕ, Bool, Option, List, length, ap, ◌∙◌, subst}
use Rattle.fleet_states.specs.declared.status.Status.{Status}
use Rattle.play_model.specs.declared.play.Play.{Play}
use Rattle.rehearse.specs.PlainReplies.{plain_reply}
use Rattle.rehearse.specs.RehearseTexts.{IsFaultFrom, RehearsesFrom}
use Rattle.resume_preview.specs.Asked.{question_of}
use Rattle.resume_preview.proofs.RestLemmas.{goes_first}
use Rattle.resume_preview.proofs.rehearsal.rehearse_from.Goals as goal

pub rehearse_play-requires : goal.rehearse_play-requires
rehearse_play-requires g c = record { all = ap length c.as_slice.ensures.value ∙ c.in-Ok.ensures.can.starts.ready.all_hosts }

pub returns-in-Ok-rehearse_play-clause-ok : goal.returns-in-Ok-rehearse_play-clause-ok
returns-in-Ok-rehearse_play-clause-ok g c =
    let resumption = c.in-Ok.resumption in
    let goes = c.in-Ok.ensures.ok in
    let is = goes_first (question_of c.args.asked.now) resumption goes c.index.result.now c.in-Ok.ensures.can.play c.index.ensures in
    let Is : Play → List Status → Type 0 = λ (play : Play) (statuses : List Status). RehearsesFrom plain_reply resumption.fleet play statuses (g.I.Read.remaining c.args.input.now) (g.I.Read.remaining c.rehearse_play.new.input)
    (g.W.Write.contents c.args.out.now) (g.W.Write.contents c.rehearse_play.new.out) c.in-Ok-rehearse_play.refused in
    record {
      resumption = resumption;
      goes = goes;
      session = subst (λ (play : Play). Is play resumption.beginning.start.statuses.items) is (subst (Is c.index.result.now) c.as_slice.ensures.value c.in-Ok-rehearse_play.ensures.ok);
    }

pub returns-clause-err : goal.returns-clause-err
returns-clause-err g c =
    let resumption = c.in-Ok.resumption in
    let goes = c.in-Ok.ensures.ok in
    let is = goes_first (question_of c.args.asked.now) resumption goes c.index.result.now c.in-Ok.ensures.can.play c.index.ensures in
    let Is : Play → List Status → Type 0 = λ (play : Play) (statuses : List Status). IsFaultFrom plain_reply (g.I.Input.is_reliable c.args.input.now) resumption.fleet play statuses (g.I.Read.remaining c.args.input.now)
    (g.I.Read.remaining c.rehearse_play.new.input) (g.W.Write.contents c.args.out.now) (g.W.Write.contents c.rehearse_play.new.out) c.in-Err-rehearse_play.fault in
    record {
      resumption = resumption;
      goes = goes;
      session = subst (λ (play : Play). Is play resumption.beginning.start.statuses.items) is (subst (Is c.index.result.now) c.as_slice.ensures.value c.in-Err-rehearse_play.ensures.err);
    }
