use Rattle.std.proofs.Common.{List, Option, ℕ, ap, ◌∙◌, find, not}
use Rattle.std.specs.Prelude.{is_some}
use Rattle.group_tree.specs.declared.ids.HostId.{HostId}
use Rattle.domains.specs.Ids.{host_numbers}
use Rattle.fleet_states.specs.Batches.{fails_in}
use Rattle.rehearse.proofs.BatchLemmas.{spared_is_outside}
use Rattle.rehearse.proofs.advance.first_outside.Goals as goal

pub returns : goal.returns
returns c =
    c.first_spared.ensures
    ∙ ap (λ (l : List (Option ℕ)). find (λ (host : HostId). not (is_some (fails_in l host.index))) c.args.named.now) c.as_slice.ensures.value
    ∙ spared_is_outside c.args.hosts (host_numbers c.args.batch.now) c.in_ok-failing.failing.items c.in_ok-failing.ensures c.requires c.args.named.now
