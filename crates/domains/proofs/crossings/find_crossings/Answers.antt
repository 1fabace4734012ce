use Rattle.std.proofs.Common.{◌≡◌, ℕ, ◌+◌, ◌<◌, ◌++◌, List, [], length, map, sym, ap, ◌∙◌, subst}
use Rattle.std.proofs.lemmas.List.{length-map}
use Rattle.group_tree.specs.declared.ids.GroupId.{GroupId}
use Rattle.fleet_index.specs.Chains.{ends_before}
use Rattle.fleet_index.specs.NumberLists.{IsRising, list_at}
use Rattle.domains.specs.Findings.{crossings_among, crossings_until, each_pair}
use Rattle.domains.specs.Ids.{group_lists, group_numbers}
use Rattle.domains.specs.Search.{AreSeen}
use Rattle.domains.specs.declared.finding.Crossing.{Crossing}
use Rattle.domains.specs.declared.finding.Finding.TheVariants.{Nesting}
use Rattle.domains.proofs.FindingLemmas.{no_crossings, range_step}
use Rattle.domains.proofs.ReaderLemmas.{lent_within}
use Rattle.domains.proofs.crossings.find_crossings.Goals as goal

pub returns-then-are_nested : goal.returns-then-are_nested
returns-then-are_nested c =
    c.new.ensures.items
    ∙ sym (ap (λ (crossings : List Crossing). map Nesting (each_pair crossings)) (no_crossings c.args.ends.now (group_lists c.args.chains.now) (c.are_nested.ensures c.if-are_nested.true)))

pub loop-host-init : goal.loop-host-init
loop-host-init c = record { sized = c.in_ok-crossings.ensures.sized; seen = c.in_ok-crossings.ensures.seen }

pub add_at-requires-clause-within : goal.add_at-requires-clause-within
add_at-requires-clause-within c =
    let n : ℕ = length c.args.ends.now in
    let listed : c.loop-host.host < length (group_lists c.args.chains.now) = simp length-map c.loop-host-test.true in
    let up : IsRising n (group_numbers c.chain_at-chain.result.now) =
    subst (λ (chain : List ℕ). IsRising n chain) (sym c.chain_at-chain.ensures) (c.requires.rising c.loop-host.host [] listed) in
    lent_within (λ (group : GroupId). group.index) n c.chain_at-chain.result.now up

pub loop-host-preserved : goal.loop-host-preserved
loop-host-preserved c =
    let cross = ends_before c.args.ends.now in
    let chains : List (List ℕ) = group_lists c.args.chains.now in
    let host : ℕ = c.loop-host.host in
    let more : crossings_until cross chains host ++ crossings_among cross host (group_numbers c.chain_at-chain.result.now) ≡ crossings_until cross chains (host + 1) =
    ap (λ (chain : List ℕ). crossings_until cross chains host ++ crossings_among cross host chain) c.chain_at-chain.ensures
    ∙ range_step (λ h. crossings_among cross h (list_at chains h)) host in
    record {
      sized = c.in_ok-add_at.ensures.sized;
      seen = subst (λ (xs : List Crossing). AreSeen (length c.args.ends.now) xs c.add_at.new.self.found.items c.add_at.new.self.marks.items) more
          (c.in_ok-add_at.ensures.seen _ c.loop-host.invariant.seen);
    }
