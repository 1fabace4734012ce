use Rattle.std.proofs.Common.{[], inl, refl}
use Rattle.journal.proofs.LineLemmas.{lines_end, lines_more}
use Rattle.journal.proofs.lines.whole_length.Goals as goal

pub loop-behind-init : goal.loop-behind-init
loop-behind-init c = record { lines = []; parts = refl; are = inl refl }

pub loop-behind-preserved : goal.loop-behind-preserved
loop-behind-preserved c = lines_more c.args.text.now c.loop-behind.left.now _ c.in-Some.behind.now c.loop-behind.invariant c.in-Some.ensures.cut

pub returns : goal.returns
returns c = lines_end c.args.text.now c.loop-behind.left.now c.loop-behind.invariant c.in_default.ensures.cut _ refl
