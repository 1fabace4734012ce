use Rattle.std.proofs.Common.{◌≡◌, ◌++◌, ◌<◌, ◌≤◌, ℕ, ◌+◌, ◌^◌, List, [], ◌∷◌, length, drop, get_or, append_assoc, sym, ap, ◌∙◌, arith, inl, inr, ◌⊎◌}
use Rattle.std.proofs.lemmas.Bool.{cases_lt}
use Rattle.std.proofs.lemmas.List.{map-append}
use Rattle.group_tree.specs.declared.ids.HostId.{HostId}
use Rattle.domains.specs.Ids.{host_numbers}
use Rattle.fleet_states.proofs.HostLemmas.{length-host_numbers, number_of_host}
use Rattle.batch_plan.specs.Deals.{dealt_to}
use Rattle.batch_plan.proofs.DealLemmas.{dealt_at, dealt_first}
use Rattle.batch_plan.proofs.dealing.deal_to.Goals as goal

pub loop-place-init : goal.loop-place-init
loop-place-init c =
    ap (λ (l : List ℕ). host_numbers c.args.dealt.now.items ++ l) (sym (dealt_first c.args.count c.args.batch (host_numbers c.args.hosts.now) c.requires))

pub loop-place-preserved : goal.loop-place-preserved
loop-place-preserved c =
    let hosts = c.args.hosts.now in
    let numbers : List ℕ = host_numbers hosts in
    let none : HostId = record { index = 0 } in
    let count : ℕ = c.args.count in
    let place : ℕ = c.loop-place.place in
    let next : ℕ = c.saturating_add-place.result in
    let host : ℕ = (get_or hosts place none).index in
    let before : List ℕ = host_numbers c.loop-place.dealt.items in
    let rest : List ℕ = dealt_to count c.args.batch c.args.batch (drop next numbers) in
    let inside : place < length hosts = c.loop-place-test.true in
    let far : (next ≡ place + count) ⊎ ((length numbers ≤ next) × (next ≤ place + count)) =
    elim (cases_lt (place + count) (2 ^ 64)) [
      | inl less ↦ inl (omega arith)
      | inr more ↦ inr (omega (arith, length-host_numbers hosts), omega arith)
    ] in
    let at = dealt_at count c.args.batch place next numbers c.requires (omega (arith, inside, length-host_numbers hosts)) far in
    let own : get_or numbers place 0 ≡ host = number_of_host hosts place none inside in
    let pushed = ap (λ (l : List HostId). host_numbers l) c.in_ok-push.ensures.items ∙ map-append (λ (h : HostId). h.index) c.loop-place.dealt.items (get_or hosts place none ∷ []) in
    ap (λ (l : List ℕ). l ++ rest) pushed
    ∙ append_assoc before (host ∷ []) rest
    ∙ ap (λ n. before ++ n ∷ rest) (sym own)
    ∙ ap (λ (l : List ℕ). before ++ l) (sym at)
    ∙ c.loop-place.invariant
