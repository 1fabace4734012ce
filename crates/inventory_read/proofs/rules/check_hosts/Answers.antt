use Rattle.std.proofs.Common.{◌≡◌, [], sym, ap, ◌∙◌, rules}
use Rattle.std.specs.String.{string_bytes}
use Rattle.serde_json.specs.View.{view, members_view}
use Rattle.text_syntax.specs.Shapes.{Entry, entries}
use Rattle.inventory_read.specs.Listings.{texts, with_placed}
use Rattle.inventory_read.specs.Paths.{text_path}
use Rattle.inventory_read.specs.Rules.{placed, broken_by_host, broken_by_hosts}
use Rattle.text_syntax.proofs.Tellings.{all_told, pass_map, with_none}
use Rattle.inventory_read.proofs.rules.check_hosts.Goals as goal

pub returns-in_default : goal.returns-in_default
returns-in_default c =
    sym (with_none c.args.faults.now)
    ∙ ap (λ members. with_placed c.args.faults.now c.args.names.now (broken_by_hosts (entries members))) (sym c.in_default.ensures.entries)

pub loop-host-preserved : goal.loop-host-preserved
loop-host-preserved c =
    let l = c.loop-host in
    let entry : Entry = record { name = string_bytes c.in-Some-2.host.now; value = view c.in-Some-2.variables.now } in
    let own : c.check_host.new.faults ≡ with_placed l.faults c.args.names.now (broken_by_host entry) =
    rw c.as_str.ensures.value at c.in_ok-check_host.ensures in
    pass_map _ _ (placed (text_path (texts c.args.names.now))) (broken_by_host entry) (broken_by_hosts (entries (members_view c.next.new.self))) _ own
    (rw c.in-Some-2.ensures.steps at l.invariant)

pub returns : goal.returns
returns c =
    let l = c.loop-host in
    let left : l.host-iterator ≡ [] = c.in-None.ensures.steps.0 in
    let start : c.into_iter-host-iterator.result ≡ c.in-Some.hosts.now.entries = search rules in
    all_told l.faults _ (rw left at l.invariant)
    ∙ ap (λ members. with_placed c.args.faults.now c.args.names.now (broken_by_hosts (entries members))) (ap members_view start ∙ c.in-Some.ensures.entries)
