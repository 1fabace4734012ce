use Rattle.std.proofs.Common.{◌≡◌, ◌<◌, ◌≤◌, Global, List, [], ◌∷◌, length, map, sym, ap, ◌∙◌, subst, arith}
use Rattle.std.specs.String.{string_bytes}
use Rattle.std.proofs.lemmas.Bool.Decides.{nat_tests}
use Rattle.std.proofs.lemmas.List.{length-map, nil_from_length}
use Rattle.domains.specs.Breaches.{Breach, TooManyHosts, named}
use Rattle.domains.specs.Faults.{all_faults, hosts_bound, TellsFirst}
use Rattle.domains.specs.FleetViews.{FleetView, IsSound}
use Rattle.domains.specs.Fleets.{IsFleetOf}
use Rattle.domains.specs.Hosts.{hosts_of}
use Rattle.domains.specs.Outcomes.{dealt_fleet, host_names, listed_groups}
use Rattle.domains.specs.declared.finding.Finding.{Finding}
use Rattle.domains.specs.declared.finding.Finding.TheVariants.{Hosts}
use Rattle.domains.proofs.BuildLemmas.{chains_below, fleet_of, sound}
use Rattle.domains.proofs.FaultLemmas.{few_hosts, many_hosts}
use Rattle.domains.proofs.fleet.Fleet.build_or_tell.Goals as goal

pub returns-then-len-gt-HOSTS_BOUND-clause-told : goal.returns-then-len-gt-HOSTS_BOUND-clause-told
returns-then-len-gt-HOSTS_BOUND-clause-told g c =
    let many : hosts_bound < length (hosts_of c.args.tree.now) =
    omega (arith, c.if-len-gt-HOSTS_BOUND.true, c.len.ensures, length-map c.in_ok-numbers.numbers.hosts.items (string_bytes {Z = Global}), ap length c.in_ok-numbers.ensures.numbered.all_hosts) in
    let all : all_faults c.args.tree.now ≡ TooManyHosts ∷ [] = many_hosts c.args.tree.now many in
    let hosts : c.in_ok-found.found.items ≡ Hosts ∷ [] = c.in_ok-found.ensures.items in
    let name : Finding → Breach = named (host_names c.in_ok-numbers.numbers) (listed_groups c.in_ok-numbers.numbers) in
    (subst (λ (all : List Breach). TellsFirst c.args.most all c.in_ok-told.told) (ap (map name) hosts ∙ sym all) c.in_ok-told.ensures, λ none. cc)

pub find_all-requires-clause-numbered : goal.find_all-requires-clause-numbered
find_all-requires-clause-numbered g c = (c.args.tree.now, c.in_ok-numbers.ensures.numbered, c.in_ok-numbers.ensures.within)

pub deal-requires-clause-below : goal.deal-requires-clause-below
deal-requires-clause-below g c =
    chains_below c.args.tree.now c.in_ok-numbers.numbers c.in_ok-lists.lists c.in_ok-numbers.ensures.numbered c.in_ok-numbers.ensures.within c.in_ok-lists.ensures

pub deal-requires-clause-sound : goal.deal-requires-clause-sound
deal-requires-clause-sound g c = λ order.
    let n = c.in_ok-numbers.numbers in
    let few : length (host_names n) ≤ hosts_bound = omega (arith, c.if-len-gt-HOSTS_BOUND.false, c.len.ensures, length-map n.hosts.items (string_bytes {Z = Global})) in
    let empty : length c.in_ok-found-2.found.items ≡ 0 = grind (arith, nat_tests, c.is_empty.ensures, c.if-is_empty.true, c.in_ok-found-2.found.ok.0) in
    let found = c.in_ok-found-2.ensures c.args.tree.now c.in_ok-numbers.ensures.numbered c.in_ok-numbers.ensures.within in
    sound c.args.tree.now n c.in_ok-lists.lists c.in_ok-numbers.ensures.numbered c.in_ok-numbers.ensures.within c.in_ok-lists.ensures order few (sym found ∙ nil_from_length _ empty)

pub returns-then-is_empty-clause-fleet : goal.returns-then-is_empty-clause-fleet
returns-then-is_empty-clause-fleet g c =
    let n = c.in_ok-numbers.numbers in
    let l = c.in_ok-lists.lists in
    let few : length (host_names n) ≤ hosts_bound = omega (arith, c.if-len-gt-HOSTS_BOUND.false, c.len.ensures, length-map n.hosts.items (string_bytes {Z = Global})) in
    let empty : length c.in_ok-found-2.found.items ≡ 0 = grind (arith, nat_tests, c.is_empty.ensures, c.if-is_empty.true, c.in_ok-found-2.found.ok.0) in
    let found = c.in_ok-found-2.ensures c.args.tree.now c.in_ok-numbers.ensures.numbered c.in_ok-numbers.ensures.within in
    let fleet : FleetView = c.in_ok-fleet.fleet in
    let dealt : fleet ≡ dealt_fleet n l fleet.order = c.in_ok-fleet.ensures.dealt in (
      subst (IsFleetOf c.args.tree.now) (sym dealt)
          (fleet_of c.args.tree.now n l c.in_ok-numbers.ensures.numbered c.in_ok-numbers.ensures.within c.in_ok-lists.ensures fleet.order (sym found ∙ nil_from_length _ empty)
          (subst IsSound dealt c.in_ok-fleet.ensures.sound)),
      sym (few_hosts c.args.tree.now n c.in_ok-found-2.found.items c.in_ok-numbers.ensures.numbered few found) ∙ ap (map _) (nil_from_length _ empty),
    )

pub returns-clause-told : goal.returns-clause-told
returns-clause-told g c =
    let n = c.in_ok-numbers.numbers in
    let few : length (host_names n) ≤ hosts_bound = omega (arith, c.if-len-gt-HOSTS_BOUND.false, c.len.ensures, length-map n.hosts.items (string_bytes {Z = Global})) in
    let some : 0 < length c.in_ok-found-2.found.items = grind (arith, nat_tests, c.is_empty.ensures, c.if-is_empty.false, c.in_ok-found-2.found.ok.0) in
    let found = c.in_ok-found-2.ensures c.args.tree.now c.in_ok-numbers.ensures.numbered c.in_ok-numbers.ensures.within in
    let all = few_hosts c.args.tree.now n c.in_ok-found-2.found.items c.in_ok-numbers.ensures.numbered few found in (
      subst (λ (all : List Breach). TellsFirst c.args.most all c.in_ok-told-2.told) all c.in_ok-told-2.ensures,
      λ none. absurd (omega (arith, some, ap length (all ∙ none), length-map c.in_ok-found-2.found.items (named (host_names n) (listed_groups n)))),
    )
