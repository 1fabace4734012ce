use Rattle.std.proofs.Common.{◌≡◌, All, map, take}
use Rattle.host_vars.specs.Shared.{all_shown}
use Rattle.host_vars.specs.HostVars.{variables_of, HasNoResult}
use Rattle.host_vars.proofs.building.without_results.Given as goal

abbrev pub invariant-loop-host : goal.invariant-loop-host
invariant-loop-host l =
    record {
      variables : map variables_of l.all.items ≡ all_shown (take l.host-index l.hosts);
      results : All HasNoResult l.all.items;
    }
