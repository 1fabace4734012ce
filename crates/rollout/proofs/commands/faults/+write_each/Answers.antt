use Rattle.std.proofs.Common.{◌-◌, drop, length, sym, subst, take}
use Rattle.rollout.specs.LintFaults.{WritesEach}
use Rattle.rollout.proofs.FaultLemmas.{split, told_more}
use Rattle.rollout.proofs.commands.faults.+write_each.Goals as goal

pub returns-in-len1-up : goal.returns-in-len1-up
returns-in-len1-up g t c =
    let faults = c.args.faults.now in
    let others = take (length faults - 1) (drop 1 faults) in
    subst (WritesEach g.W.Write.contents c.args.text.now c.write_each.new.text) (sym (split faults c.fault-item.result c.in-len1-up.len_at_least c.fault-item.is))
    (told_more g.W.Write.contents c.args.text.now c.write_told.new.text c.write_each.new.text c.fault-item.result others c.write_told.ensures c.write_each.ensures)
