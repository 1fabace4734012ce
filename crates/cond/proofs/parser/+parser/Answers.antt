use Rattle.std.proofs.Common.{List, [], ◌∷◌, ◌++◌, length, sym, ap, ◌∙◌, subst, arith}
use Rattle.cond.specs.Tokens.{Token}
use Rattle.cond.specs.Seen.{ahead, place_of, text_of}
use Rattle.cond.specs.declared.tree.Tree.{Tree}
use Rattle.cond.proofs.OrChains as or_chains
use Rattle.cond.proofs.AndChains as and_chains
use Rattle.cond.proofs.Firsts.{behind_le, first_or, first_other_or, first_and, first_other_and, first_not, first_other_not, first_other_opening, first_closing, first_other_closing}
use Rattle.cond.proofs.NestLaws.{not_read, not_refused, not_too_deep, plain_read_if, plain_refused_if, brackets_too_deep, brackets_refused, brackets_read, brackets_open, brackets_unended}
use Rattle.cond.proofs.parser.+parser.Goals as goal

pub any-returns-in-Err-clause-refused : goal.any-returns-in-Err-clause-refused
any-returns-in-Err-clause-refused t c =
    let text = text_of c.args.source.now in
    let tokens = ahead c.args.source.now c.args.from in
    or_chains.part_refused text (place_of c.args.source.now) tokens tokens c.args.room [] c.in-Err.stop (or_chains.nothing_yet text tokens c.args.room) c.in-Err.ensures.refused

pub any-returns-else-is_or-clause-read : goal.any-returns-else-is_or-clause-read
any-returns-else-is_or-clause-read t c =
    let text = text_of c.args.source.now in
    let tokens = ahead c.args.source.now c.args.from in
    let left = ahead c.args.source.now c.in-Ok.read.1 in
    or_chains.only_read text tokens c.args.room c.in-Ok.read.0 left c.in-Ok.ensures.read (first_other_or left (sym c.is_or.ensures ∙ c.if-is_or.false))

pub alternatives-others-init : goal.alternatives-others-init
alternatives-others-init t c =
    let text = text_of c.args.source.now in
    let tokens = ahead c.args.source.now c.args.from in
    let rest = ahead c.args.source.now c.args.first_rest in
    let begun = or_chains.one_more text tokens tokens c.args.room [] c.push.new.self.items c.args.first_part rest (or_chains.nothing_yet text tokens c.args.room) c.requires.read
    (c.in_ok-push.ensures.items ∙ ap (λ (l : List Tree). l ++ c.args.first_part ∷ []) c.in_ok-parts.ensures.items) (first_or rest c.requires.next) in (
      subst (λ (m : List Token). or_chains.Gathered text tokens m c.args.room c.push.new.self.items) (sym c.behind-left.ensures) begun,
      omega
          (arith, ap length c.behind-left.ensures, behind_le rest, c.requires.shorter),
    )

pub alternatives-returns-in-Err-clause-refused : goal.alternatives-returns-in-Err-clause-refused
alternatives-returns-in-Err-clause-refused t c =
    or_chains.part_refused (text_of c.args.source.now) (place_of c.args.source.now) (ahead c.args.source.now c.args.from)
    (ahead c.args.source.now c.others.left) c.args.room c.others.parts.items c.in-Err.stop c.others.invariant.0 c.in-Err.ensures.refused

pub alternatives-others-preserved : goal.alternatives-others-preserved
alternatives-others-preserved t c =
    let text = text_of c.args.source.now in
    let tokens = ahead c.args.source.now c.args.from in
    let left = ahead c.args.source.now c.in-Ok.read.1 in
    let more = or_chains.one_more text tokens
    (ahead c.args.source.now c.others.left) c.args.room c.others.parts.items c.push-in-others.new.self.items c.in-Ok.read.0 left c.others.invariant.0 c.in-Ok.ensures.read
    c.in_ok-push-2.ensures.items (first_or left (sym c.is_or.ensures ∙ c.if-is_or.true)) in (
      subst (λ (m : List Token). or_chains.Gathered text tokens m c.args.room c.push-in-others.new.self.items) (sym c.behind-left-then-is_or.ensures) more,
      omega
          (arith, ap length c.behind-left-then-is_or.ensures, behind_le left, c.in-Ok.ensures.shorter, c.others.invariant.1),
    )

pub alternatives-returns-else-is_or-clause-read : goal.alternatives-returns-else-is_or-clause-read
alternatives-returns-else-is_or-clause-read t c =
    let text = text_of c.args.source.now in
    let tokens = ahead c.args.source.now c.args.from in
    let left = ahead c.args.source.now c.in-Ok.read.1 in
    or_chains.all_read text tokens (ahead c.args.source.now c.others.left) c.args.room c.others.parts.items c.push-in-others.new.self.items c.in-Ok.read.0 left c.others.invariant.0
    c.in-Ok.ensures.read c.in_ok-push-2.ensures.items (first_other_or left (sym c.is_or.ensures ∙ c.if-is_or.false)) c.either.result (c.either.ensures text)

pub all-returns-in-Err-clause-refused : goal.all-returns-in-Err-clause-refused
all-returns-in-Err-clause-refused t c =
    let text = text_of c.args.source.now in
    let tokens = ahead c.args.source.now c.args.from in
    and_chains.part_refused text (place_of c.args.source.now) tokens tokens c.args.room [] c.in-Err.stop (and_chains.nothing_yet text tokens c.args.room) c.in-Err.ensures.refused

pub all-returns-else-is_and-clause-read : goal.all-returns-else-is_and-clause-read
all-returns-else-is_and-clause-read t c =
    let text = text_of c.args.source.now in
    let tokens = ahead c.args.source.now c.args.from in
    let left = ahead c.args.source.now c.in-Ok.read.1 in
    and_chains.only_read text tokens c.args.room c.in-Ok.read.0 left c.in-Ok.ensures.read (first_other_and left (sym c.is_and.ensures ∙ c.if-is_and.false))

pub conjuncts-others-init : goal.conjuncts-others-init
conjuncts-others-init t c =
    let text = text_of c.args.source.now in
    let tokens = ahead c.args.source.now c.args.from in
    let rest = ahead c.args.source.now c.args.first_rest in
    let begun = and_chains.one_more text tokens tokens c.args.room [] c.push.new.self.items c.args.first_part rest (and_chains.nothing_yet text tokens c.args.room) c.requires.read
    (c.in_ok-push.ensures.items ∙ ap (λ (l : List Tree). l ++ c.args.first_part ∷ []) c.in_ok-parts.ensures.items) (first_and rest c.requires.next) in (
      subst (λ (m : List Token). and_chains.Gathered text tokens m c.args.room c.push.new.self.items) (sym c.behind-left.ensures) begun,
      omega
          (arith, ap length c.behind-left.ensures, behind_le rest, c.requires.shorter),
    )

pub conjuncts-returns-in-Err-clause-refused : goal.conjuncts-returns-in-Err-clause-refused
conjuncts-returns-in-Err-clause-refused t c =
    and_chains.part_refused (text_of c.args.source.now) (place_of c.args.source.now) (ahead c.args.source.now c.args.from)
    (ahead c.args.source.now c.others.left) c.args.room c.others.parts.items c.in-Err.stop c.others.invariant.0 c.in-Err.ensures.refused

pub conjuncts-others-preserved : goal.conjuncts-others-preserved
conjuncts-others-preserved t c =
    let text = text_of c.args.source.now in
    let tokens = ahead c.args.source.now c.args.from in
    let left = ahead c.args.source.now c.in-Ok.read.1 in
    let more = and_chains.one_more text tokens
    (ahead c.args.source.now c.others.left) c.args.room c.others.parts.items c.push-in-others.new.self.items c.in-Ok.read.0 left c.others.invariant.0 c.in-Ok.ensures.read
    c.in_ok-push-2.ensures.items (first_and left (sym c.is_and.ensures ∙ c.if-is_and.true)) in (
      subst (λ (m : List Token). and_chains.Gathered text tokens m c.args.room c.push-in-others.new.self.items) (sym c.behind-left-then-is_and.ensures) more,
      omega
          (arith, ap length c.behind-left-then-is_and.ensures, behind_le left, c.in-Ok.ensures.shorter, c.others.invariant.1),
    )

pub conjuncts-returns-else-is_and-clause-read : goal.conjuncts-returns-else-is_and-clause-read
conjuncts-returns-else-is_and-clause-read t c =
    let text = text_of c.args.source.now in
    let tokens = ahead c.args.source.now c.args.from in
    let left = ahead c.args.source.now c.in-Ok.read.1 in
    and_chains.all_read text tokens
    (ahead c.args.source.now c.others.left) c.args.room c.others.parts.items c.push-in-others.new.self.items c.in-Ok.read.0 left c.others.invariant.0 c.in-Ok.ensures.read
    c.in_ok-push-2.ensures.items (first_other_and left (sym c.is_and.ensures ∙ c.if-is_and.false)) c.both.result (c.both.ensures text)

pub neg-returns-else-is_not-clause-read : goal.neg-returns-else-is_not-clause-read
neg-returns-else-is_not-clause-read t c =
    plain_read_if c.args.source.now c.args.room (ahead c.args.source.now c.args.from) c.primary.result c.primary.ensures.read

pub neg-returns-else-is_not-clause-refused : goal.neg-returns-else-is_not-clause-refused
neg-returns-else-is_not-clause-refused t c =
    plain_refused_if (place_of c.args.source.now) c.args.room (ahead c.args.source.now c.args.from) c.primary.result
    (first_other_not (ahead c.args.source.now c.args.from) (sym c.is_not.ensures ∙ c.if-is_not.false)) c.primary.ensures.refused

pub negation-returns-then-room-eq0-clause-refused : goal.negation-returns-then-room-eq0-clause-refused
negation-returns-then-room-eq0-clause-refused t c =
    not_too_deep (text_of c.args.source.now) (place_of c.args.source.now) c.args.room (ahead c.args.source.now c.args.from)
    (first_not (ahead c.args.source.now c.args.from) c.requires) c.place.result c.place.ensures c.if-room-eq0.true

pub negation-returns-in_ok-negated-in-Ok-clause-read : goal.negation-returns-in_ok-negated-in-Ok-clause-read
negation-returns-in_ok-negated-in-Ok-clause-read t c =
    let text = text_of c.args.source.now in
    let tokens = ahead c.args.source.now c.args.from in
    let rest = ahead c.args.source.now c.in-Ok.rest in
    not_read text (place_of c.args.source.now) c.args.room tokens (first_not tokens c.requires) c.in-Ok.part c.in_ok-negated-in-Ok.field-0 rest (omega arith)
    (rw c.behind.ensures at c.in-Ok.ensures.read) (c.in_ok-negated-in-Ok.ensures text)

pub negation-returns-in-Err-clause-refused : goal.negation-returns-in-Err-clause-refused
negation-returns-in-Err-clause-refused t c =
    not_refused (text_of c.args.source.now) (place_of c.args.source.now) c.args.room (ahead c.args.source.now c.args.from)
    (first_not (ahead c.args.source.now c.args.from) c.requires) c.in-Err.stop (omega arith) (rw c.behind.ensures at c.in-Err.ensures.refused)

pub bracketed-returns-then-room-eq0-clause-refused :
    goal.bracketed-returns-then-room-eq0-clause-refused
bracketed-returns-then-room-eq0-clause-refused t c =
    brackets_too_deep (text_of c.args.source.now) (place_of c.args.source.now) c.args.room (ahead c.args.source.now c.args.from) c.requires c.place.result c.place.ensures c.if-room-eq0.true

pub bracketed-returns-in-Err-clause-refused : goal.bracketed-returns-in-Err-clause-refused
bracketed-returns-in-Err-clause-refused t c =
    brackets_refused (text_of c.args.source.now) (place_of c.args.source.now) c.args.room (ahead c.args.source.now c.args.from) c.requires c.in-Err.stop (omega arith)
    (rw c.behind.ensures at c.in-Err.ensures.refused)

pub bracketed-returns-then-ends-clause-read : goal.bracketed-returns-then-ends-clause-read
bracketed-returns-then-ends-clause-read t c =
    let rest = ahead c.args.source.now c.in-Ok.read.1 in
    brackets_read (text_of c.args.source.now) (place_of c.args.source.now) c.args.room (ahead c.args.source.now c.args.from) c.requires (omega arith) c.in-Ok.read.0 rest
    (rw c.behind.ensures at c.in-Ok.ensures.read)
    (ahead c.args.source.now c.behind-behind.result) (first_closing rest (sym c.is_closing.ensures ∙ c.if-is_closing.true)) c.behind-behind.ensures (sym c.ends.ensures ∙ c.if-ends.true)

pub bracketed-returns-else-ends-clause-refused : goal.bracketed-returns-else-ends-clause-refused
bracketed-returns-else-ends-clause-refused t c =
    let rest = ahead c.args.source.now c.in-Ok.read.1 in
    brackets_unended (text_of c.args.source.now) (place_of c.args.source.now) c.args.room (ahead c.args.source.now c.args.from) c.requires (omega arith) c.in-Ok.read.0 rest
    (rw c.behind.ensures at c.in-Ok.ensures.read)
    c.place-else-ends.result (ahead c.args.source.now c.behind-behind.result) c.place-else-ends.ensures
    (first_closing rest (sym c.is_closing.ensures ∙ c.if-is_closing.true)) c.behind-behind.ensures (sym c.ends.ensures ∙ c.if-ends.false)

pub bracketed-returns-else-is_closing-clause-refused :
    goal.bracketed-returns-else-is_closing-clause-refused
bracketed-returns-else-is_closing-clause-refused t c =
    let rest = ahead c.args.source.now c.in-Ok.read.1 in
    brackets_open (text_of c.args.source.now) (place_of c.args.source.now) c.args.room (ahead c.args.source.now c.args.from) c.requires (omega arith) c.in-Ok.read.0 rest
    (rw c.behind.ensures at c.in-Ok.ensures.read)
    c.place-else-is_closing.result c.place-else-is_closing.ensures (first_other_closing rest (sym c.is_closing.ensures ∙ c.if-is_closing.false))

pub primary-leaf-requires : goal.primary-leaf-requires
primary-leaf-requires t c = first_other_opening (ahead c.args.source.now c.args.from) (sym c.is_opening.ensures ∙ c.if-is_opening.false)
