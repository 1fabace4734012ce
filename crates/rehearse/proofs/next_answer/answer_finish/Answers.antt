use Rattle.std.proofs.Common.{◌≡◌, length, ap, ◌∙◌}
use Rattle.domains.specs.FleetViews.{FleetView}
use Rattle.rehearse.specs.Stacks.{RehearsalView}
use Rattle.rehearse.specs.Answers.{over}
use Rattle.rehearse.proofs.NextLemmas.{finishes_where}
use Rattle.rehearse.proofs.next_answer.answer_finish.Goals as goal

pub returns-clause-leads : goal.returns-clause-leads
returns-clause-leads c =
    let before = c.args.history.now in
    let all : c.hosts-hosts.result ≡ length before.place.rehearsal.rules.fleet.hosts =
    c.hosts-hosts.ensures.count ∙ ap (λ (f : FleetView). length f.hosts) c.fleet.ensures ∙ ap (λ (r : RehearsalView). length r.rules.fleet.hosts) c.rehearsal.ensures in
    finishes_where c.answer_next.result before c.answer_next.new.history c.hosts-hosts.result (over before.place.rehearsal) all c.answer_next.ensures.leads c.answer_next.ensures.to_end
