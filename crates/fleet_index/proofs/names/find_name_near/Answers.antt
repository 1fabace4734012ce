use Rattle.std.proofs.Common.{◌≡◌, ◌∙◌, [], sym, ap, Global}
use Rattle.std.specs.String.{string_bytes}
use Rattle.std.proofs.lemmas.List.{get_or-map}
use Rattle.fleet_index.proofs.SortedNamesLemmas.{same_name-true}
use Rattle.fleet_index.proofs.names.find_name_near.Goals as goal

pub returns-in-Some : goal.returns-in-Some
returns-in-Some c =
    let got = c.in-Some.ensures.lookup in
    let own = c.in-Some.own.now in
    let same : string_bytes {Z = Global} own ≡ c.args.name.now = sym c.as_str.ensures.value ∙ same_name-true c.as_str.result.now c.args.name.now (sym c.if-eq.ensures) in
    (got.3.0, get_or-map (string_bytes {Z = Global}) c.args.names.now c.args.near own [] got.3.0 ∙ ap (string_bytes {Z = Global}) (sym got.1) ∙ same)
