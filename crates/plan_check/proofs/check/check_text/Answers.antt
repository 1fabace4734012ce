use Rattle.std.proofs.Common.{◌<◌, List, length, refl, sym, ◌∙◌, arith}
use Rattle.std.proofs.KnownBytes.{Keeps-refl}
use Rattle.play_model.specs.declared.play.Play.{Play}
use Rattle.plan_command.proofs.PlayLemmas.{has_play}
use Rattle.plan_check.specs.Shown.{shown}
use Rattle.plan_check.specs.Verdicts.{end_of}
use Rattle.plan_check.specs.VerdictText.{verdict_text}
use Rattle.plan_check.proofs.CheckLemmas.{is_verdict, refused_check, unread_check}
use Rattle.plan_check.proofs.check.check_text.Goals as goal

pub returns-in-Err-clause-err : goal.returns-in-Err-clause-err
returns-in-Err-clause-err g c =
    unread_check c.args.inventory.now c.args.playbook.now c.args.plan.now _ _ c.in-Err.fault (Keeps-refl (g.W.Write.contents c.args.out.now)) c.in-Err.ensures.err

pub returns-in-Err-read_known_plays-clause-err : goal.returns-in-Err-read_known_plays-clause-err
returns-in-Err-read_known_plays-clause-err g c =
    refused_check c.args.inventory.now c.args.playbook.now c.args.plan.now _ _ c.in-Ok.fleet c.in-Ok.ensures.ok c.in-Err-read_known_plays.fault
    (Keeps-refl (g.W.Write.contents c.args.out.now)) c.in-Err-read_known_plays.ensures.err

pub index-requires : goal.index-requires
index-requires g c =
    let plays : List Play = c.in-Ok-read_known_plays.plays.items in
    let some : 0 < length plays = has_play 16 c.args.playbook.now plays c.in-Ok-read_known_plays.ensures.ok.reads in
    omega (arith, some, c.in-Ok-read_known_plays.plays.ok)

pub returns-in-Ok-send_verdict-clause-ok : goal.returns-in-Ok-send_verdict-clause-ok
returns-in-Ok-send_verdict-clause-ok g c =
    let fleet = c.in-Ok.fleet in
    let plays : List Play = c.in-Ok-read_known_plays.plays.items in
    let read = c.in-Ok-read_known_plays.ensures.ok in
    let verdict = c.in-Ok-judge.verdict in
    record {
      text = verdict_text fleet (shown verdict);
      is = record {
        fleet = fleet;
        verdict = shown verdict;
        is = is_verdict c.args.inventory.now c.args.playbook.now c.args.plan.now fleet plays c.index.result.now verdict c.in-Ok.ensures.ok read
            (has_play 16 c.args.playbook.now plays read.reads) c.index.ensures (sym c.find_bad_line.ensures ∙ c.in_default.is) c.in-Ok-judge.ensures;
        text_is = refl;
        ends = c.end.ensures;
      };
      written = c.in-Ok-send_verdict.ensures;
    }

pub returns-clause-err : goal.returns-clause-err
returns-clause-err g c =
    let fleet = c.in-Ok.fleet in
    let plays : List Play = c.in-Ok-read_known_plays.plays.items in
    let read = c.in-Ok-read_known_plays.ensures.ok in
    let verdict = c.in-Ok-judge.verdict in
    record {
      text = verdict_text fleet (shown verdict);
      end = end_of (shown verdict);
      is = record {
        fleet = fleet;
        verdict = shown verdict;
        is = is_verdict c.args.inventory.now c.args.playbook.now c.args.plan.now fleet plays c.index.result.now verdict c.in-Ok.ensures.ok read
            (has_play 16 c.args.playbook.now plays read.reads) c.index.ensures (sym c.find_bad_line.ensures ∙ c.in_default.is) c.in-Ok-judge.ensures;
        text_is = refl;
        ends = refl;
      };
      written = c.in-Err-send_verdict.ensures;
    }
