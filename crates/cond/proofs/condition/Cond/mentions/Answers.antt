use Rattle.cond.specs.Mentions.{names_of}
use Rattle.cond.proofs.Mentioned.{is_mentioned}
use Rattle.cond.proofs.condition.Cond.mentions.Goals as goal

pub returns : goal.returns
returns c =
    let same = is_mentioned c.first_mentioned.result c.args.name.now (names_of c.args.self.now) c.first_mentioned.ensures in
    cc
