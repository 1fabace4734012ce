use Rattle.std.proofs.Common.{length, ap, arith}
use Rattle.fleet_index.proofs.RunLemmas.{length-runs}
use Rattle.fleet_index.proofs.lists.NumberLists.len.Goals as goal

pub returns : goal.returns
returns c =
    omega (arith, c.len.ensures, c.self.inside.ends.ok.0, ap length c.self.view_is, length-runs c.self.inside.numbers.items c.self.inside.ends.items)
