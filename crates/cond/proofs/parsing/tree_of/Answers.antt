use Rattle.std.proofs.Common.{◌≡◌, ◌<◌, ℕ, List, length, drop, sym, ap, ◌∙◌, subst, rules, arith, None}
use Rattle.std.proofs.lemmas.Grind.{common_steps}
use Rattle.cond.specs.Conditions.{IsRead, most_depth}
use Rattle.cond.specs.Grammar.{any_then, any_depth}
use Rattle.cond.specs.Heads.{first}
use Rattle.cond.specs.Meaning.{any_meaning}
use Rattle.cond.specs.Readings.{ends_any, Reads, Refuses}
use Rattle.cond.specs.Seen.{marks, place_in}
use Rattle.cond.specs.Trees.{written, tree_verdict}
use Rattle.cond.specs.declared.stop.Stop.{Stop}
use Rattle.cond.specs.declared.stop.Stop.TheVariants as stop
use Rattle.cond.proofs.Breaches.{unexpected_breaks, bad_breaks, too_deep_breaks, left_breaks, read_bad}
use Rattle.cond.proofs.ParseLaws.{kept_some, kept_none, test_alone}
use Rattle.cond.proofs.parsing.tree_of.Goals as goal
use Rattle.cond.proofs.parsing.tree_of.Goals.{else-bad-2-via-then-bad-2+else-at-source, else-bad-2-via-else-bad-2}

pub returns-in-Some-clause-read : goal.returns-in-Some-clause-read
returns-in-Some-clause-read c =
    let text = c.as_bytes.result.now in
    let tokens = c.args.tokens.now in
    let tree = c.leaf_of.result in
    let made = test_alone text (marks text tokens) (written text c.in-Some.test) tree c.in-Some.ensures (c.leaf_of.ensures text) in
    subst (λ (t : List ℕ). IsRead (marks t tokens) (λ e. tree_verdict t e tree)) c.as_bytes.ensures.value made

pub returns-then-is_some-clause-err : goal.returns-then-is_some-clause-err
returns-then-is_some-clause-err c =
    let said = c.as_bytes.result.now in
    let tokens = c.args.tokens.now in
    let tree = c.in-Ok.tree in
    let rest = drop c.in-Ok.rest (marks said tokens) in
    let some = kept_some said c.first.result rest c.first.ensures (sym c.is_some.ensures ∙ c.if-is_some.true) in
    let read = subst (λ (t : List ℕ). Reads any_then any_depth ends_any any_meaning (tree_verdict said) most_depth (marks t tokens) tree rest) c.as_bytes.ensures.value c.in-Ok.ensures.read in
    left_breaks c.args.text.now tokens c.args.left.text.now c.args.left.at c.requires said tree rest read c.place.result c.place.ensures some

pub returns-then-bad-clause-err : goal.returns-then-bad-clause-err
returns-then-bad-clause-err c =
    let said = c.as_bytes.result.now in
    let tokens = c.args.tokens.now in
    let tree = c.in-Ok.tree in
    let rest = drop c.in-Ok.rest (marks said tokens) in
    let none : first rest ≡ None = ap first (kept_none said c.first.result rest c.first.ensures (sym c.is_some.ensures ∙ c.if-is_some.false)) in
    let some : 0 < length c.args.left.text.now = first_of (search rules, grind (arith, common_steps)) in
    let read = subst (λ (t : List ℕ). Reads any_then any_depth ends_any any_meaning (tree_verdict said) most_depth (marks t tokens) tree rest) c.as_bytes.ensures.value c.in-Ok.ensures.read in
    read_bad c.args.text.now tokens c.args.left.text.now c.args.left.at c.requires said tree rest read none some

pub returns-then-at-source-clause-err : goal.returns-then-at-source-clause-err
returns-then-at-source-clause-err c =
    let tokens = c.args.tokens.now in
    let at = c.in-Err-Unexpected.at in
    let end = c.args.left.at in
    let some : 0 < length c.args.left.text.now = first_of (search rules, grind (arith, common_steps)) in
    let why = c.in-Err-Unexpected.field-0 in
    let same : why ≡ stop.Unexpected at = (let here = c.in-Err-Unexpected.field-0-is in first_of (cc, search rules, grind (arith, common_steps))) in
    let stopped = subst (λ (t : List ℕ). Refuses any_then any_depth ends_any (place_in tokens end) most_depth (marks t tokens) why) c.as_bytes.ensures.value c.in-Err-Unexpected.ensures.refused in
    let refused = subst (λ (s : Stop). Refuses any_then any_depth ends_any (place_in tokens end) most_depth (marks c.args.text.now tokens) s) same stopped in
    bad_breaks c.args.text.now tokens c.args.left.text.now end c.requires at refused some c.if-at-source.true

pub returns-else-bad-2-clause-err : goal.returns-else-bad-2-clause-err
returns-else-bad-2-clause-err c =
    let tokens = c.args.tokens.now in
    let at = c.in-Err-Unexpected.at in
    let end = c.args.left.at in
    let why = c.in-Err-Unexpected.field-0 in
    let same : why ≡ stop.Unexpected at = (let here = c.in-Err-Unexpected.field-0-is in first_of (cc, search rules, grind (arith, common_steps))) in
    let stopped = subst (λ (t : List ℕ). Refuses any_then any_depth ends_any (place_in tokens end) most_depth (marks t tokens) why) c.as_bytes.ensures.value c.in-Err-Unexpected.ensures.refused in
    let refused = subst (λ (s : Stop). Refuses any_then any_depth ends_any (place_in tokens end) most_depth (marks c.args.text.now tokens) s) same stopped in
    unexpected_breaks c.args.text.now tokens c.args.left.text.now end c.requires at refused good
  where
    good : 0 < length c.args.left.text.now → c.in-Err-Unexpected.at ≡ c.args.left.at → ⊥
    good some last =
        elim c.else-bad-2.branch as (λ _. ⊥) [
          | else-bad-2-via-then-bad-2+else-at-source w ↦ let other = w.if-at-source.false in first_of (omega (arith, other, last), cc, grind (arith, common_steps))
          | else-bad-2-via-else-bad-2 w ↦ let none = w.if-bad-2.false in first_of (search rules, grind (arith, common_steps))
        ]

pub returns-in-Err-TooDeep-clause-err : goal.returns-in-Err-TooDeep-clause-err
returns-in-Err-TooDeep-clause-err c =
    let tokens = c.args.tokens.now in
    let at = c.in-Err-TooDeep.at in
    let end = c.args.left.at in
    let why = c.in-Err-TooDeep.field-0 in
    let same : why ≡ stop.TooDeep at = (let here = c.in-Err-TooDeep.field-0-is in first_of (cc, search rules, grind (arith, common_steps))) in
    let stopped = subst (λ (t : List ℕ). Refuses any_then any_depth ends_any (place_in tokens end) most_depth (marks t tokens) why) c.as_bytes.ensures.value c.in-Err-TooDeep.ensures.refused in
    let refused = subst (λ (s : Stop). Refuses any_then any_depth ends_any (place_in tokens end) most_depth (marks c.args.text.now tokens) s) same stopped in
    too_deep_breaks c.args.text.now tokens c.args.left.text.now end c.requires at refused
