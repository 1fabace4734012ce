use Rattle.std.proofs.Common.{◌≡◌, ◌∙◌, [], ◌++◌, take}
use Rattle.json.specs.Json.{document}
use Rattle.json.specs.Value.{value_view}
use Rattle.duplicate_keys.specs.Inside.{below_all, paths_told}
use Rattle.duplicate_keys.specs.Repeats.{repeated_in_value}
use Rattle.duplicate_keys.proofs.Ways.{in_document}
use Rattle.duplicate_keys.proofs.listing.list_by_walk.Goals as goal

pub returns-in-Ok : goal.returns-in-Ok
returns-in-Ok c =
    let value = value_view c.in-Ok.value in
    let listed : paths_told c.push_in_value.new.told ≡ take 100 (below_all [] (repeated_in_value value)) =
    c.in_ok-push_in_value-in-Ok.ensures.told ∙ (λ i. take 100 (c.new-told.ensures i ++ below_all (c.new.ensures.items i) (repeated_in_value value))) in
    c.into_paths.ensures ∙ in_document (document c.args.text.now) value _ c.in-Ok.ensures.ok listed
