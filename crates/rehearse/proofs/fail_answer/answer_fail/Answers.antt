use Rattle.std.proofs.Common.{◌≡◌, Some, Option, sym, ap, ◌∙◌, subst}
use Rattle.rehearse.specs.Stacks.{RehearsalView}
use Rattle.rehearse.specs.Answers.{mark_refusal, unless}
use Rattle.rehearse.specs.AnswersInside.{why_of}
use Rattle.rehearse.specs.Names.{host_named}
use Rattle.rehearse.specs.Replies.{Refused, marked}
use Rattle.rehearse.proofs.fail_answer.answer_fail.Goals as goal

pub returns-in-Err-clause-reply : goal.returns-in-Err-clause-reply
returns-in-Err-clause-reply c =
    let before : RehearsalView = c.args.history.now.place.rehearsal in
    let told = subst (λ (r : RehearsalView). mark_refusal r c.args.name.now ≡ Some (why_of c.in-Err.refusal)) c.rehearsal.ensures c.in-Err.ensures in
    c.refuse.ensures.reply ∙ sym (ap (λ (o : Option Refused). unless o (marked (host_named before.rules.fleet c.args.name.now))) told)
