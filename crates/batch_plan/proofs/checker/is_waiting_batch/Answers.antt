use Rattle.std.proofs.Common.{ℕ, sym, ◌∙◌}
use Rattle.std.proofs.lemmas.List.Folds.{list_all-map}
use Rattle.group_tree.specs.declared.ids.HostId.{HostId}
use Rattle.fleet_states.specs.Statuses.{is_waiting, status_at}
use Rattle.batch_plan.proofs.checker.is_waiting_batch.Goals as goal

pub returns : goal.returns
returns c =
    c.all_wait.ensures ∙ sym (list_all-map (λ (host : ℕ). is_waiting (status_at c.args.statuses.now host)) (λ (host : HostId). host.index) c.args.batch.now)
