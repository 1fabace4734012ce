use Rattle.cond.specs.Seen.{text_of}
use Rattle.cond.proofs.Sources.{place_some, place_none}
use Rattle.cond.proofs.source.Source.place.Goals as goal

pub returns-in-Some : goal.returns-in-Some
returns-in-Some c =
    let here = place_some (text_of c.args.self.now) c.args.self.now.tokens.now c.args.self.now.end c.args.from c.in-Some.token c.in-Some.ensures in
    let wide = c.from.ensures in
    cc

pub returns-in-None : goal.returns-in-None
returns-in-None c =
    place_none (text_of c.args.self.now) c.args.self.now.tokens.now c.args.self.now.end c.args.from c.in-None.ensures
