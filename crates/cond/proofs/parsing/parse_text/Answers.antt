use Rattle.std.proofs.Common.{List, length, sym, subst, arith}
use Rattle.cond.specs.Fronts.{FallsAt}
use Rattle.cond.specs.Seen.{marks}
use Rattle.cond.specs.declared.token.Token as placed
use Rattle.cond.proofs.Breaches.{falls_into}
use Rattle.cond.proofs.OnlyLaws.{only_refused}
use Rattle.cond.proofs.ParseLaws.{parsed_if}
use Rattle.cond.proofs.parsing.parse_text.Goals as goal

pub tree_of-requires : goal.tree_of-requires
tree_of-requires c =
    let text = c.args.text.now in
    subst (λ (all : List placed.Token). FallsAt text (length text) text all c.in_ok-left.left.text.now c.in_ok-left.left.at) (sym c.as_slice.ensures.value) c.in_ok-left.ensures

pub returns-clause-ok : goal.returns-clause-ok
returns-clause-ok c =
    let text = c.args.text.now in
    let tokens = c.as_slice.result.now in
    let left = c.in_ok-left.left.text.now in
    let at = c.in_ok-left.left.at in
    let falls = subst (λ (all : List placed.Token). FallsAt text (length text) text all left at) (sym c.as_slice.ensures.value) c.in_ok-left.ensures in
    parsed_if c.tree_of.result text (marks text tokens) left (falls_into text (length text) text tokens left at falls) (omega arith) c.tree_of.ensures.read c.tree_of.ensures.whole

pub returns-clause-only : goal.returns-clause-only
returns-clause-only c = only_refused c.tree_of.result c.args.text.now c.tree_of.ensures.err
