use Rattle.std.proofs.Common.{◌≡◌, not, take}
use Rattle.std.specs.List.{filter}
use Rattle.domains.specs.Ids.{host_numbers}
use Rattle.step_lints.specs.Hosts.{is_off}
use Rattle.lint_command.proofs.targets.Targets.of.Given as goal

abbrev pub invariant-loop-host : goal.invariant-loop-host
invariant-loop-host l = record {
  waiting : l.targets.waiting.items ≡ filter (λ host. not (is_off l.fleet host)) (take l.host-index (host_numbers l.named));
  down : l.targets.down.items ≡ filter (is_off l.fleet) (take l.host-index (host_numbers l.named));
}
