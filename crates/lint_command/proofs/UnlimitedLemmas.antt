-- Hosts without a limit, by their chains of groups.
use Rattle.std.proofs.Common.{◌≡◌, ℕ, List, length, ap, sym, ◌∙◌}
use Rattle.std.proofs.lemmas.List.{length-map}
use Rattle.std.specs.Prelude.{◌==◌}
use Rattle.domains.specs.Ids.{group_numbers}
use Rattle.group_tree.specs.declared.ids.GroupId.{GroupId}

-- there are as many numbers as groups
pub chain_of : (groups : List GroupId) (chain : List ℕ) → group_numbers groups ≡ chain → (length chain == 0) ≡ (length groups == 0)
chain_of groups chain are = ap (λ (l : List ℕ). length l == 0) (sym are) ∙ ap (λ n. n == 0) (length-map groups (λ (group : GroupId). group.index))
