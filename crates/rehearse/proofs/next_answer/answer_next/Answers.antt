use Rattle.std.proofs.Common.{◌≡◌, ℕ, None, Option, drop, length, sym, ap, ◌∙◌}
use Rattle.rehearse.specs.Stacks.{RehearsalView, batches_to, top}
use Rattle.rehearse.specs.Answers.{batches_between, over, unless}
use Rattle.rehearse.specs.Replies.{Refused, Reply, advanced}
use Rattle.rehearse.proofs.NextLemmas.{told_on}
use Rattle.rehearse.proofs.next_answer.answer_next.Goals as goal

pub returns-clause-reply : goal.returns-clause-reply
returns-clause-reply c =
    let before = c.args.history.now.place.rehearsal in
    let after = c.resume.new.self.place.rehearsal in
    let on : over before ≡ None = told_on before c.end.result c.is_some.result (c.end.ensures ∙ ap (λ (r : RehearsalView). (top r).end) c.rehearsal.ensures) c.is_some.ensures c.if-is_some.false in
    let from_is : c.advances-from.result ≡ length before.above = c.advances-from.ensures ∙ ap (λ (r : RehearsalView). length r.above) c.rehearsal-2.ensures in
    ap (λ (n : ℕ). let r : Reply = advanced (drop n (batches_to after.first after.above)) in r) from_is ∙ sym (ap (λ (o : Option Refused). unless o (batches_between before after)) on)
