use Rattle.std.proofs.Common.{ℕ, List, nat_lt, ◌++◌, subst, refl}
use Rattle.std.proofs.lemmas.List.{take_all}
use Rattle.bounded_io.specs.Writing.{Writes}
use Rattle.bounded_io.proofs.WritingLemmas.{writes_two}
use Rattle.domains.specs.Ids.{host_numbers}
use Rattle.group_tree.specs.declared.ids.HostId.{HostId}
use Rattle.json_output.specs.Arrays.{comma_if, entries_text}
use Rattle.json_output.proofs.ArrayLemmas.{mapped_more}
use Rattle.rehearse.specs.JsonReplies.{member_of}
use Rattle.rehearse.specs.Stacks.{top}
use Rattle.rehearse.proofs.json_hosts.write_each_member.Goals as goal

pub loop-place-preserved : goal.loop-place-preserved
loop-place-preserved g c =
    let r = c.args.rehearsal.now in
    let piece : ℕ → ℕ → List ℕ = λ place host. comma_if (nat_lt 0 place) ++ member_of r.rules.fleet (top r) host in
    writes_two _ c.args.text.now c.loop-place.text c.write_entry.new.text _ _ _ c.loop-place.invariant c.write_entry.ensures
    (mapped_more piece (λ (host : HostId). host.index) c.args.hosts.now c.loop-place.place _ _ c.loop-place-test.true refl)

pub returns : goal.returns
returns g c =
    let r = c.args.rehearsal.now in
    let all = take_all c.loop-place.place c.args.hosts.now c.loop-place-test.false in
    subst (λ (l : List HostId). Writes g.W.Write.contents c.args.text.now c.loop-place.text (entries_text (λ place host. member_of r.rules.fleet (top r) host) (host_numbers l))) all c.loop-place.invariant
