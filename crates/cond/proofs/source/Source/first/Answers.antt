use Rattle.cond.specs.Seen.{text_of}
use Rattle.cond.proofs.Sources.{first_some, first_none}
use Rattle.cond.proofs.source.Source.first.Goals as goal

pub returns-in-Some : goal.returns-in-Some
returns-in-Some c =
    first_some (text_of c.args.self.now) c.args.self.now.tokens.now c.args.from c.in-Some.token c.in-Some.ensures

pub returns-in-None : goal.returns-in-None
returns-in-None c = first_none (text_of c.args.self.now) c.args.self.now.tokens.now c.args.from c.in-None.ensures
