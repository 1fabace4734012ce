use Rattle.std.proofs.Common.{length, ap, arith}
use Rattle.std.specs.String.{string_bytes}
use Rattle.fleet_index.proofs.RunLemmas.{length-runs}
use Rattle.play_model.proofs.words.Words.len.Goals as goal

pub returns : goal.returns
returns c =
    omega (arith, c.len.ensures, c.self.inside.ends.ok.0, ap length c.self.view_is, length-runs (string_bytes c.self.inside.text) c.self.inside.ends.items)
