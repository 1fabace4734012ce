use Rattle.std.proofs.Common.{◌≡◌, ◌∙◌, ℕ, Bool, List, None, get_or, ap, subst, arith}
use Rattle.domains.specs.Ids.{host_numbers}
use Rattle.domains.specs.FleetViews.{FleetView, IsSound, down_at_start, off_count}
use Rattle.domains.proofs.ReaderLemmas.{at_most, members_lent}
use Rattle.domains.proofs.fleet.Fleet.down_at_start.Goals as goal

pub returns : goal.returns
returns c =
    let fleet : FleetView = c.args.self.now in
    let g : ℕ = c.args.group.index in
    let sound : IsSound fleet = subst IsSound c.self.view_is c.self.invariant.sound in
    let hosts = host_numbers c.as_slice-members.result.now in
    let lent =
    members_lent c.self.inside fleet c.args.group.index c.index.result.now c.as_slice-members.result.now
    c.self.view_is c.self.invariant.sound c.requires c.index.ensures c.as_slice-members.ensures.value in
    let off : c.as_slice.result.now ≡ fleet.off = c.as_slice.ensures.value ∙ ap (λ (f : FleetView). f.off) c.self.view_is in
    let down : c.count_off.result ≡ down_at_start fleet g = c.count_off.ensures ∙ ap (λ (o : List Bool). off_count o hosts) off ∙ ap (off_count fleet.off) lent.0 in
    record {
      down = down;
      within = at_most (get_or fleet.limits g None) c.count_off.result (λ limit e. omega (arith, down, sound.within_limits g limit e));
    }
