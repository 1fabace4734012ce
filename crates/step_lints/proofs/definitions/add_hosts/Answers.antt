use Rattle.std.proofs.Common.{◌||◌, List, ap, ◌∙◌, take}
use Rattle.group_tree.specs.Subtrees.{Host}
use Rattle.group_tree.specs.Variables.{Variable}
use Rattle.step_lints.specs.Given.{has_missed, hosts_give, is_named}
use Rattle.step_lints.proofs.AnyLemmas.{any_more, set_more}
use Rattle.step_lints.proofs.definitions.add_hosts.Goals as goal

pub loop-host-preserved : goal.loop-host-preserved
loop-host-preserved g c =
    let hosts : List Host = c.args.hosts.now in
    let place = c.loop-host.host-index in
    let host : Host = c.host-item.result in
    let before = c.loop-host.given in
    λ name.
    set_more (has_missed c.add_variables.new.given name) (has_missed before name) (has_missed c.args.given.now name) (hosts_give name (take place hosts)) (is_named name host.variables) _
    (c.in_ok-add_variables.ensures name ∙ ap (λ (l : List Variable). has_missed before name || is_named name l) c.variables.ensures) (c.loop-host.invariant name)
    (any_more (λ (h : Host). is_named name h.variables) hosts place host c.loop-host-test.true c.host-item.is)
