use Rattle.std.proofs.Common.{ap, ◌∙◌}
use Rattle.fleet_states.specs.Statuses.{down_count}
use Rattle.recap.proofs.limits.count_then.Goals as goal
