-- Whether there is a group, by its number.
use Rattle.std.proofs.Common.{◌≡◌, ℕ, Option, None, Some, option_map, refl, ap, ◌∙◌}
use Rattle.std.specs.Prelude.{is_some}
use Rattle.group_tree.specs.declared.ids.GroupId.{GroupId}

kept : (group : Option GroupId) → is_some group ≡ is_some (option_map (λ (one : GroupId). one.index) group)
kept None = refl
kept (Some group) = refl

pub some_index : (group : Option GroupId) (place : Option ℕ) → option_map (λ (one : GroupId). one.index) group ≡ place → is_some group ≡ is_some place
some_index group place is = kept group ∙ ap is_some is
