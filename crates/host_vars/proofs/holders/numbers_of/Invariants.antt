use Rattle.std.proofs.Common.{◌≡◌, take}
use Rattle.domains.specs.Ids.{host_numbers}
use Rattle.host_vars.proofs.holders.numbers_of.Given as goal

abbrev pub invariant-loop-host : goal.invariant-loop-host
invariant-loop-host l = l.numbers.items ≡ host_numbers (take l.host-index l.hosts)
