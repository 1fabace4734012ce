use Rattle.std.proofs.Common.{◌≡◌, take}
use Rattle.domains.specs.Ids.{host_numbers}
use Rattle.domains.specs.FleetViews.{off_count}
use Rattle.domains.proofs.starts.count_off.Given as goal

abbrev pub invariant-loop-host : goal.invariant-loop-host
invariant-loop-host l = l.count ≡ off_count l.off (host_numbers (take l.host-index l.hosts))
