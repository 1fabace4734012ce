use Rattle.std.proofs.Common.{◌∙◌, ◌++◌, ◌∷◌, [], List, ℕ, ap, arith}
use Rattle.std.proofs.lemmas.List.{map-append}
use Rattle.group_tree.specs.declared.ids.HostId.{HostId}
use Rattle.domains.specs.Ids.{host_numbers}
use Rattle.fleet_states.proofs.HostLemmas.{length-host_numbers}
use Rattle.fleet_index.proofs.RunLemmas.{added}
use Rattle.batch_plan.proofs.batches.Batches.push.Goals as goal

pub returns-clause-ok : goal.returns-clause-ok
returns-clause-ok c =
    let inside = c.self.inside in
    let numbers : List HostId → List ℕ = host_numbers in
    let longer = ap numbers c.in_ok-extend_from_slice.ensures.items ∙ map-append (λ (h : HostId). h.index) inside.hosts.items c.args.batch.now in
    let size = c.len.ensures in
    let all = added (numbers inside.hosts.items) inside.ends.items (numbers c.extend_from_slice.new.self.items) c.push.new.self.items (numbers c.args.batch.now) c.args.self.now c.len.result
    c.self.invariant c.self.view_is longer (c.in_ok-push.ensures.items ∙ ap (λ (l : List ℕ). l ++ c.len.result ∷ []) c.reserve.ensures.items)
    (omega (arith, size, length-host_numbers c.extend_from_slice.new.self.items, c.extend_from_slice.new.self.ok.0)) in
    all.0
