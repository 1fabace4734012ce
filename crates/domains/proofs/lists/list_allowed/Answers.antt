use Rattle.std.proofs.Common.{◌≡◌, ◌∙◌, ◌++◌, ◌∷◌, [], ℕ, Option, None, List, map, option_map, length, get_or, sym, ap, arith}
use Rattle.std.specs.List.{range_with_len}
use Rattle.std.proofs.lemmas.List.{get_or-map, length-map}
use Rattle.std.proofs.lemmas.List.FromFn.{map-range_with_len_more}
use Rattle.group_tree.specs.DownLimits.{Limit}
use Rattle.group_tree.specs.Limits.{limit_of}
use Rattle.fleet_index.specs.NumberLists.{list_at}
use Rattle.domains.proofs.ByNumber.{allowed_for, count_of}
use Rattle.group_tree.specs.declared.ids.HostId.{HostId}
use Rattle.domains.specs.Ids.{host_lists, host_numbers}
use Rattle.domains.proofs.lists.list_allowed.Goals as goal

pub loop-group-preserved : goal.loop-group-preserved
loop-group-preserved c =
    let members = host_lists c.args.members.now in
    let limits : List (Option Limit) = map (option_map limit_of) c.args.limits.now in
    let i : ℕ = c.loop-group.group in
    let count : ℕ → Option ℕ = count_of limits members in
    let shown : Option Limit = option_map limit_of c.index-limits-group.result in
    let own : get_or limits i None ≡ shown =
    get_or-map (option_map limit_of) c.args.limits.now i c.index-limits-group.result None (omega arith) ∙ sym (ap (option_map limit_of) c.index-limits-group.is) in
    let held : length c.members_at-held.result.now ≡ length (host_numbers c.members_at-held.result.now) =
    sym (length-map c.members_at-held.result.now (λ (host : HostId). host.index)) in
    let here : c.allowed_count.result ≡ count i =
    c.allowed_count.ensures ∙ ap (λ (n : ℕ). allowed_for n shown) (held ∙ ap length c.members_at-held.ensures) ∙ ap (allowed_for (length (list_at members i))) (sym own) in
    c.in_ok-push.ensures.items
    ∙ ap (λ (l : List (Option ℕ)). l ++ c.allowed_count.result ∷ []) c.loop-group.invariant
    ∙ ap (λ (o : Option ℕ). map count (range_with_len 0 i) ++ o ∷ []) here
    ∙ sym (map-range_with_len_more count 0 i i (omega arith))
