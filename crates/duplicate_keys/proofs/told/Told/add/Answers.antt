use Rattle.std.proofs.Common.{ap, ◌∙◌, arith}
use Rattle.duplicate_keys.specs.Inside.{paths_of}
use Rattle.duplicate_keys.proofs.Ways.{none_pushed, one_pushed}
use Rattle.duplicate_keys.proofs.told.Told.add.Goals as goal

pub returns-in_ok-push : goal.returns-in_ok-push
returns-in_ok-push c = ap paths_of c.in_ok-push.ensures.items ∙ one_pushed c.args.self.now.paths.items c.args.path (omega (arith, c.len.ensures, c.if-len-lt-MOST.true))

pub returns-else-len-lt-MOST : goal.returns-else-len-lt-MOST
returns-else-len-lt-MOST c = none_pushed c.args.self.now c.args.path.items (omega (arith, c.len.ensures, c.if-len-lt-MOST.false))
