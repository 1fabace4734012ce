use Rattle.std.proofs.Common.{◌≡◌, ◌++◌, length}
use Rattle.rehearse.specs.Commands.{words_of}
use Rattle.rehearse.specs.Names.{first_nobody, hosts_named}
use Rattle.rehearse.proofs.names.find_hosts.Given as goal

abbrev pub invariant-loop-name : goal.invariant-loop-name
invariant-loop-name l = record {
  nobody : first_nobody l.fleet (words_of l.names) ≡ first_nobody l.fleet (words_of l.left);
  named : hosts_named l.fleet (words_of l.names) ≡ l.hosts.items ++ hosts_named l.fleet (words_of l.left);
}

abbrev pub decreases-loop-name : goal.decreases-loop-name
decreases-loop-name l = length l.left
