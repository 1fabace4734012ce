use Rattle.std.proofs.Common.{◌≤◌, ◌+◌, length}
use denote.Shadow.{shadow}
use denote.Text.{Utf8}
use Rattle.cond.proofs.Places.{Ends}
use Rattle.cond.proofs.Tokenizing.{SoFar}
use Rattle.cond.proofs.token.tokenize.Given as goal

abbrev pub decreases-loop-kind : goal.decreases-loop-kind
decreases-loop-kind l = length l.left

abbrev pub invariant-loop-kind : goal.invariant-loop-kind
invariant-loop-kind l =
    (length l.left ≤ length l.fn.text) × (length l.all.items + length l.left ≤ l.all.cap) × SoFar l.fn.text l.all.items l.left × Ends l.fn.text l.left × shadow (Utf8 l.left)
