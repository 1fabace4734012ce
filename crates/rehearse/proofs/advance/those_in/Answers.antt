use Rattle.std.proofs.Common.{◌≡◌, ℕ, List, Option, IfOk, filter, ap, ◌∙◌, subst}
use Rattle.std.specs.Prelude.{is_some}
use Rattle.group_tree.specs.declared.ids.HostId.{HostId}
use Rattle.domains.specs.Ids.{host_numbers}
use Rattle.fleet_states.specs.Batches.{fails_in}
use Rattle.rehearse.proofs.BatchLemmas.{able_are_in}
use Rattle.rehearse.proofs.advance.those_in.Goals as goal

pub returns : goal.returns
returns c =
    subst (λ (l : List HostId). IfOk c.list_able.result (λ found. found.items ≡ l))
    (ap (λ (l : List (Option ℕ)). filter (λ (host : HostId). is_some (fails_in l host.index)) c.args.marked.now) c.as_slice.ensures.value
    ∙ able_are_in c.args.hosts (host_numbers c.args.batch.now) c.in_ok-failing.failing.items c.in_ok-failing.ensures c.requires c.args.marked.now)
    c.list_able.ensures
