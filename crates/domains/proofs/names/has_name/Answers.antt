use Rattle.std.proofs.Common.{◌∙◌, Bor, [], sym, ap}
use Rattle.std.proofs.lemmas.List.{get_or-map}
use Rattle.group_tree.specs.Names.{Name}
use Rattle.fleet_index.proofs.SortedNamesLemmas.{same_name-true}
use Rattle.domains.proofs.names.has_name.Goals as goal

pub returns-in-Some : goal.returns-in-Some
returns-in-Some c = λ same.
    let got = c.in-Some.ensures.lookup in
    let own = c.in-Some.own.now in (
      got.3.0,
      get_or-map (λ (name : Bor Name). name.now) c.args.names.now c.args.place own [] got.3.0
          ∙ ap (λ (name : Bor Name). name.now) (sym got.1)
          ∙ same_name-true own.now c.args.name.now (sym c.eq.ensures ∙ same),
    )
