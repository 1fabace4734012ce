use Rattle.std.proofs.Common.{◌≡◌, ℕ, true, List, length, ap, ◌∙◌}
use Rattle.fleet_index.specs.NumberLists.{are_below}
use Rattle.fleet_states.specs.declared.status.Status.{Status}
use Rattle.fleet_states.specs.declared.status.Status.TheVariants.{Running, Waiting}
use Rattle.domains.specs.Ids.{host_numbers}
use Rattle.fleet_states.specs.Statuses.{are_ready, changed}
use Rattle.fleet_states.proofs.ReadyLemmas.{given_back, ready_below}
use Rattle.fleet_states.proofs.StatusLemmas.{length-changed}
use Rattle.down_ledger.proofs.marks.test_ready.Goals as goal

pub set_all-requires : goal.set_all-requires
set_all-requires c =
    let statuses = c.args.statuses.now in
    let hosts : List ℕ = host_numbers c.args.hosts.now in
    ap (λ (n : ℕ). are_below n hosts) (ap length c.in-Ok.ensures.1 ∙ length-changed (λ _. Running) hosts statuses) ∙ ready_below statuses hosts c.in-Ok.ensures.0

pub returns-clause-same : goal.returns-clause-same
returns-clause-same c =
    let statuses = c.args.statuses.now in
    let hosts : List ℕ = host_numbers c.args.hosts.now in
    c.set_all.ensures ∙ ap (λ (l : List Status). changed (λ _. Waiting) hosts l) c.in-Ok.ensures.1 ∙ given_back statuses hosts c.in-Ok.ensures.0
