use Rattle.std.proofs.Common.{◌≡◌, List, ap, ◌∙◌, subst}
use Rattle.domains.specs.FleetViews.{FleetView}
use Rattle.group_tree.specs.declared.ids.HostId.{HostId}
use Rattle.rehearse.specs.Commands.{words_of}
use Rattle.rehearse.specs.Stacks.{RehearsalView}
use Rattle.rehearse.specs.GoingOn.{HasAdvanced}
use Rattle.rehearse.specs.AnswersInside.{AreNamed}
use Rattle.rehearse.specs.declared.names.Named.{Named}
use Rattle.rehearse.specs.declared.names.Named.TheVariants.{Hosts}
use Rattle.rehearse.proofs.StageLemmas.{went_on}
use Rattle.rehearse.proofs.advance_answer.advance_by.Goals as goal

pub returns-in-Ok-clause-settled : goal.returns-in-Ok-clause-settled
returns-in-Ok-clause-settled c =
    let names = words_of c.args.names.now in
    let before = c.args.history.now in
    let fleet : c.fleet.result.now ≡ before.place.rehearsal.rules.fleet = c.fleet.ensures ∙ ap (λ (r : RehearsalView). r.rules.fleet) c.rehearsal.ensures in
    let named = subst (λ (n : Named). AreNamed before.place.rehearsal.rules.fleet names n) c.in-Hosts.is
    (subst (λ (f : FleetView). AreNamed f names c.in_ok-hosts.field-0) fleet c.in_ok-hosts.ensures) in
    went_on before c.advance.new.self names c.in-Hosts.hosts.items named.0 named.1
    (subst (λ (l : List HostId). HasAdvanced l before c.advance.new.self) c.as_slice.ensures.value c.in-Ok.ensures.ok)
