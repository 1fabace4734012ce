use Rattle.std.proofs.Common.{◌≡◌, ◌∙◌, ℕ, ◌<◌, List, [], Global, length, map, get_or, sym, ap, subst, arith}
use Rattle.std.specs.String.{string_bytes}
use Rattle.std.proofs.lemmas.List.{length-map}
use Rattle.group_tree.specs.Names.{Name, same_name}
use Rattle.domains.specs.Numbered.{host_at}
use Rattle.domains.specs.FleetViews.{FleetView, IsSound}
use Rattle.domains.proofs.NumberLemmas.{same_host}
use Rattle.domains.proofs.fleet.Fleet.host.Goals as goal

pub returns-in-Some : goal.returns-in-Some
returns-in-Some c =
    let fleet : FleetView = c.args.self.now in
    let h : ℕ = c.in-Some.index in
    let sound : IsSound fleet = subst IsSound c.self.view_is c.self.invariant.sound in
    let same : map (string_bytes {Z = Global}) c.as_slice.result.now ≡ fleet.hosts = ap (map (string_bytes {Z = Global})) c.as_slice.ensures.value ∙ ap (λ (f : FleetView). f.hosts) c.self.view_is in
    let within : h < length fleet.hosts = omega (arith, c.in-Some.ensures.0, ap length same, length-map c.as_slice.result.now (string_bytes {Z = Global})) in
    let named : host_at fleet.hosts h ≡ c.args.name.now = sym (ap (λ (l : List Name). get_or l h []) same) ∙ c.in-Some.ensures.1 in
    (within, named, λ other l. ap (λ (n : Name). same_name n (host_at fleet.hosts other)) (sym named) ∙ same_host fleet.hosts h other sound.hosts_rise within l)
