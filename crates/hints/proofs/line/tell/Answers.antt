use Rattle.hints.proofs.LineLemmas.{helps}
use Rattle.hints.proofs.line.tell.Goals as goal

pub returns : goal.returns
returns c = helps c.print.result c.as_bytes.result.now c.first.result.now c.first.ensures c.print.ensures
