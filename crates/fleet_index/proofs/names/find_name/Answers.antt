use Rattle.std.proofs.Common.{rules, Global}
use Rattle.std.specs.String.{string_bytes}
use Rattle.std.proofs.lemmas.Fn.{always_returns_same}
use Rattle.fleet_index.specs.SortedNames.{name_cmp}
use Rattle.fleet_index.proofs.FindLemmas.{found_name}
use Rattle.fleet_index.proofs.names.find_name.Goals as goal

pub returns : goal.returns
returns c =
    let place = c.binary_search_by.ensures.position (λ own. name_cmp (string_bytes {Z = Global} own) c.args.name.now) (always_returns_same _ _ _ (λ a r g h. search rules)) in
    rw c.ok.ensures.value (found_name (string_bytes {Z = Global}) c.args.names.now c.args.name.now c.requires c.binary_search_by.result place c.binary_search_by.ensures.bound)
