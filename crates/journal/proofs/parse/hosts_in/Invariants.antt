use Rattle.std.proofs.Common.{◌≡◌}
use Rattle.domains.specs.Ids.{host_numbers}
use Rattle.journal.specs.Guesses.{each, host_in}
use Rattle.journal.proofs.EachLemmas.{with_those, words_left, size_left}
use Rattle.journal.proofs.parse.hosts_in.Given as goal

abbrev pub invariant-loop-left : goal.invariant-loop-left
invariant-loop-left l =
    each (host_in l.fleet) (words_left l.words) ≡ with_those (host_numbers l.hosts.items) (each (host_in l.fleet) (words_left l.left))

abbrev pub decreases-loop-left : goal.decreases-loop-left
decreases-loop-left l = size_left l.left
