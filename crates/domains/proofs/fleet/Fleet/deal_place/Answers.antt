use Rattle.std.proofs.Common.{arith}
use Rattle.domains.proofs.ReaderLemmas.{all_places, place_lent}
use Rattle.domains.proofs.fleet.Fleet.deal_place.Goals as goal

pub index-requires : goal.index-requires
index-requires c =
    omega (arith, c.requires, all_places c.self.inside c.args.self.now c.self.view_is c.self.invariant, c.self.inside.places.ok.0)

pub returns : goal.returns
returns c =
    let at = place_lent c.self.inside c.args.self.now c.args.host.index c.index.result.now c.self.view_is c.self.invariant c.requires c.index.ensures in
    record { within = at.0; host = at.1 }
