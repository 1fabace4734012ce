use Rattle.std.proofs.Common.{length, ap, ◌∙◌}
use Rattle.rehearse.specs.Commands.{words_of}
use Rattle.rehearse.specs.Stacks.{RehearsalView}
use Rattle.rehearse.proofs.StageLemmas.{advanced_reply}
use Rattle.rehearse.proofs.advance_answer.answer_advance.Goals as goal

pub returns-in-None-clause-reply : goal.returns-in-None-clause-reply
returns-in-None-clause-reply c =
    advanced_reply c.args.history.now c.advance_by.new.history (words_of c.args.names.now) c.in_ok-refusal.field-0 c.in_ok-refusal.ensures.settled c.advances-from.result
    (c.advances-from.ensures ∙ ap (λ (r : RehearsalView). length r.above) c.rehearsal.ensures) c.in-None.is
