use Rattle.std.proofs.Common.{◌≡◌, drop}
use Rattle.rollout.specs.Children.{says_ignored}
use Rattle.rollout.proofs.children.says_ignored.Given as goal

abbrev pub invariant-loop-place : goal.invariant-loop-place
invariant-loop-place l = says_ignored (drop l.place l.text) ≡ says_ignored l.text
