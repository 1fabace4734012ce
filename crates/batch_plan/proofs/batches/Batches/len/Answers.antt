use Rattle.std.proofs.Common.{length, ap, arith}
use Rattle.domains.specs.Ids.{host_numbers}
use Rattle.fleet_index.proofs.RunLemmas.{length-runs}
use Rattle.batch_plan.proofs.batches.Batches.len.Goals as goal

pub returns : goal.returns
returns c =
    omega (arith, c.len.ensures, c.self.inside.ends.ok.0, ap length c.self.view_is, length-runs (host_numbers c.self.inside.hosts.items) c.self.inside.ends.items)
