use Rattle.cond.specs.Seen.{text_of}
use Rattle.cond.proofs.Sources.{behind_at}
use Rattle.cond.proofs.source.Source.behind.Goals as goal

pub returns-then-from-self : goal.returns-then-from-self
returns-then-from-self c = behind_at (text_of c.args.self.now) c.args.self.now.tokens.now c.args.from
