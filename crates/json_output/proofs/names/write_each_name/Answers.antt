use Rattle.std.proofs.Common.{ℕ, List, nat_lt, ◌++◌, subst, refl}
use Rattle.std.proofs.lemmas.List.{take_all}
use Rattle.bounded_io.specs.Writing.{Writes}
use Rattle.bounded_io.proofs.WritingLemmas.{writes_two}
use Rattle.domains.specs.Ids.{host_numbers}
use Rattle.domains.specs.Numbered.{host_at}
use Rattle.group_tree.specs.declared.ids.HostId.{HostId}
use Rattle.json_output.specs.Arrays.{comma_if, entries_text, quoted}
use Rattle.json_output.proofs.ArrayLemmas.{mapped_more}
use Rattle.json_output.proofs.names.write_each_name.Goals as goal

pub loop-place-preserved : goal.loop-place-preserved
loop-place-preserved g c =
    let piece : ℕ → ℕ → List ℕ = λ place host. comma_if (nat_lt 0 place) ++ quoted (host_at c.args.fleet.now.hosts host) in
    writes_two _ c.args.text.now c.loop-place.text c.write_name.new.text _ _ _ c.loop-place.invariant c.write_name.ensures
    (mapped_more piece (λ (host : HostId). host.index) c.args.hosts.now c.loop-place.place _ _ c.loop-place-test.true refl)

pub returns : goal.returns
returns g c =
    let all = take_all c.loop-place.place c.args.hosts.now c.loop-place-test.false in
    subst (λ (l : List HostId). Writes g.W.Write.contents c.args.text.now c.loop-place.text (entries_text (λ place host. quoted (host_at c.args.fleet.now.hosts host)) (host_numbers l))) all c.loop-place.invariant
