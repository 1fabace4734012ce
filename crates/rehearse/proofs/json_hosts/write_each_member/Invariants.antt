use Rattle.std.proofs.Common.{take}
use Rattle.bounded_io.specs.Writing.{Writes}
use Rattle.domains.specs.Ids.{host_numbers}
use Rattle.json_output.specs.Arrays.{entries_text}
use Rattle.rehearse.specs.JsonReplies.{member_of}
use Rattle.rehearse.specs.Stacks.{top}
use Rattle.rehearse.proofs.json_hosts.write_each_member.Given as goal

abbrev pub invariant-loop-place : goal.invariant-loop-place
invariant-loop-place g l =
    Writes g.W.Write.contents l.initial.text l.text (entries_text (λ place host. member_of l.rehearsal.rules.fleet (top l.rehearsal) host) (host_numbers (take l.place l.hosts)))
