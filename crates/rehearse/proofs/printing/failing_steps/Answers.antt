use Rattle.std.proofs.Common.{ℕ, List, ap, ◌∙◌, subst}
use Rattle.domains.specs.Ids.{host_numbers}
use Rattle.group_tree.specs.declared.ids.HostId.{HostId}
use Rattle.rehearse.specs.Advances.{AreFirstSteps}
use Rattle.rehearse.proofs.CourseTextLemmas.{fail_so}
use Rattle.rehearse.proofs.printing.failing_steps.Goals as goal

pub returns-clause-so : goal.returns-clause-so
returns-clause-so c =
    let fleet = c.args.fleet.now in
    let steps = subst (λ (n : ℕ). AreFirstSteps n (host_numbers c.as_slice.result.now) c.in_ok-first_steps.field-0.items) c.hosts.ensures.count c.in_ok-first_steps.ensures in
    let hosts = ap (λ (l : List HostId). host_numbers l) c.as_slice.ensures.value ∙ c.in_ok-named.ensures.hosts in
    fail_so fleet c.args.failing.now (host_numbers c.as_slice.result.now) c.in_ok-first_steps.field-0.items steps hosts
