use Rattle.std.proofs.Common.{◌≡◌, Some, List, [], map, take, length, sym, ap, ◌∙◌, arith}
use Rattle.std.proofs.lemmas.List.{take_all}
use Rattle.domains.specs.Breaches.{Breach, breach_of}
use Rattle.domains.specs.Faults.{all_faults}
use Rattle.domains.specs.Fleets.{IsFleetOf}
use Rattle.all_faults.proofs.fleet.tree_part.Goals as goal

pub returns-in-Ok-Ok : goal.returns-in-Ok-Ok
returns-in-Ok-Ok g c =
    let built : IsFleetOf c.args.tree.now c.in-Ok-Ok.fleet × (all_faults c.args.tree.now ≡ []) = rw c.in-Ok-Ok.field-0-is at c.in-Ok-Ok.ensures.fleet in (
      c.no_inventory_faults-none.ensures.faults,
      c.no_inventory_faults-none.ensures.more,
      record {
        first = ap (map breach_of) c.no_fleet_faults.ensures.faults
            ∙ sym (ap (λ (all : List Breach). map Some (take c.args.most all)) built.1 ∙ ap (map Some) (take_all c.args.most [] (omega arith)));
        others = c.no_fleet_faults.ensures.more ∙ omega (arith, ap length built.1);
      },
      built.0,
    )
