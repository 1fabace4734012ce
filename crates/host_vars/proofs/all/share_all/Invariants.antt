use Rattle.host_vars.specs.Own.{hosts_shown}
use Rattle.host_vars.specs.Shared.{AreMadeFrom}
use Rattle.host_vars.proofs.all.share_all.Given as goal

abbrev pub invariant-loop-index : goal.invariant-loop-index
invariant-loop-index g l =
    AreMadeFrom l.shared.layers.now l.shared.holders.now (hosts_shown l.shared.rows.now) l.shared.own.now l.fleet.hosts l.index l.hosts.items
