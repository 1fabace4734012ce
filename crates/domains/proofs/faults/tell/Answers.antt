use Rattle.std.proofs.Common.{Some, map, take, sym, ap, ◌∙◌, arith}
use Rattle.std.proofs.lemmas.List.{length-map, take-map, take_all}
use Rattle.std.proofs.lemmas.Simd.{map-map}
use Rattle.domains.specs.Breaches.{named, Breach}
use Rattle.domains.specs.Outcomes.{host_names, listed_groups}
use Rattle.domains.specs.declared.finding.Finding.{Finding}
use Rattle.domains.proofs.faults.tell.Goals as goal

pub returns : goal.returns
returns c =
    let name : Finding → Breach = named (host_names c.args.numbers.now) (listed_groups c.args.numbers.now) in
    record {
      first = c.loop-finding.invariant
          ∙ ap (map (λ finding. Some (name finding))) (take_all _ _ c.loop-finding-test.false ∙ c.as_slice-finding-items.ensures.value ∙ c.truncate.ensures.items)
          ∙ sym (map-map Some name (take c.args.most c.args.found.items))
          ∙ ap (map Some) (sym (take-map name c.args.most c.args.found.items));
      others = omega (arith, c.len.ensures, c.saturating_sub-more.ensures, c.args.found.ok.0, length-map c.args.found.items name);
    }
