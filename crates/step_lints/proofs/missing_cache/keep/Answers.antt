use Rattle.step_lints.proofs.LacksLemmas.{learned}
use Rattle.step_lints.proofs.missing_cache.keep.Goals as goal

pub returns : goal.returns
returns c =
    learned c.args.vars.now c.args.waiting.now c.args.known.now c.insert.new.self c.args.name.now c.look_up-facts.result c.in_ok-insert.ensures.updates c.look_up-facts.ensures c.requires
