-- What is drawn for each number below a count, number by number.
use Rattle.std.proofs.Common.{◌≡◌, ℕ, ◌+◌, ◌++◌, List, flat_map, ap, sym, ◌∙◌}
use Rattle.std.specs.List.{range_with_len}
use Rattle.group_tree.proofs.WellFormed.{flat_map-push}
use Rattle.fleet_states.proofs.NumberLemmas.{range_more}
use Rattle.forecast_svg.specs.PictureText.{each_below}

pub each_more : (piece : ℕ → List ℕ) (i : ℕ) → each_below piece i ++ piece i ≡ each_below piece (i + 1)
each_more piece i = sym (ap (flat_map piece) (range_more i) ∙ flat_map-push piece (range_with_len 0 i) i)
