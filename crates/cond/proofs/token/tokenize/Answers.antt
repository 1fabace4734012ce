use Rattle.std.proofs.Common.{◌≡◌, ◌≤◌, ℕ, ◌+◌, ◌-◌, ◌++◌, List, arith, sym, ap, ◌∙◌, length, length-append, subst, Some}
use Rattle.cond.specs.Tokens.{Token, is_blank}
use Rattle.cond.specs.Seen.{seen}
use Rattle.cond.specs.declared.token.Token as placed
use Rattle.cond.proofs.Shorter.{token_shorter, left_le}
use Rattle.cond.proofs.Places.{Ends, token_begins, run_ends, ends_later, stands_later}
use Rattle.cond.proofs.Tokenizing.{Falls, goes_on, one_longer, ends_here}
use Rattle.cond.proofs.token.tokenize.Goals as goal

pub loop-kind-init : goal.loop-kind-init
loop-kind-init c =
    let text = c.args.text.now in
    let blank = c.without_blanks-left.ensures in
    let nothing = λ (tokens : List placed.Token) (end : List ℕ) (at : ℕ) (h : Falls text text tokens end at). subst
    (λ (all : List placed.Token). Falls text text (all ++ tokens) end at) (sym (c.reserve.ensures.items ∙ c.clear.ensures.items)) h in (
      omega (arith, left_le is_blank text, ap length blank),
      omega
          (arith, left_le is_blank text, ap length blank, ap length c.reserve.ensures.items, ap length c.clear.ensures.items, c.in_ok-reserve.ensures.ok),
      (text, blank, nothing),
      subst
          (Ends text) (sym blank) (run_ends is_blank text),
      c.without_blanks-left.utf8,
    )

pub loop-kind-smaller : goal.loop-kind-smaller
loop-kind-smaller c =
    omega (
      arith,
      token_shorter c.loop-kind.left.now (seen c.in-Some.kind) c.in-Some.behind.now
          (sym c.in-Some.ensures),
      ap length c.without_blanks-left-in-Some.ensures,
      left_le is_blank c.in-Some.behind.now,
    )

pub mark_at-requires : goal.mark_at-requires
mark_at-requires c =
    let begins = token_begins c.loop-kind.left.now (seen c.in-Some.kind) c.in-Some.behind.now (sym c.in-Some.ensures) in
    omega (arith, c.requires, c.loop-kind.invariant.0, begins.1.1)

pub push_reserved-requires : goal.push_reserved-requires
push_reserved-requires c =
    omega (arith, c.loop-kind.invariant.1, token_shorter c.loop-kind.left.now (seen c.in-Some.kind) c.in-Some.behind.now (sym c.in-Some.ensures), c.loop-kind.all.ok.0)

pub loop-kind-preserved : goal.loop-kind-preserved
loop-kind-preserved c =
    let text = c.args.text.now in
    let left = c.loop-kind.left.now in
    let behind = c.in-Some.behind.now in
    let next = c.without_blanks-left-in-Some.result.now in
    let blank = c.without_blanks-left-in-Some.ensures in
    let cut = sym c.in-Some.ensures in
    let begins = token_begins left (seen c.in-Some.kind) behind cut in
    let ends = c.loop-kind.invariant.3 in
    let here : length text - length left ≡ length ends.0 = omega (arith, ap length ends.1, length-append ends.0 left) in
    let same = c.mark_at.ensures text (stands_later text left _ (seen c.in-Some.kind) ends here begins.1.0) in
    let found = ap (λ (t : Token). Some (t, behind)) same ∙ c.in-Some.ensures in
    let shorter : length next ≤ length text = omega (arith, c.loop-kind.invariant.0, token_shorter left (seen c.in-Some.kind) behind cut, ap length blank, left_le is_blank behind) in
    let later = ends_later left behind next begins.0 (subst (Ends behind) (sym blank) (run_ends is_blank behind)) in
    let room : length c.push_reserved.new.self.items + length next ≤ c.push_reserved.new.self.cap =
    omega (
      arith,
      c.loop-kind.invariant.1,
      token_shorter left
          (seen c.in-Some.kind) behind cut,
      ap length blank,
      left_le is_blank behind,
      one_longer c.loop-kind.all.items c.push_reserved.new.self.items _ c.push_reserved.ensures.items,
      c.push_reserved.ensures.capacity,
    ) in
    let placed_here : (length text - length left) + length left ≡ length text = omega (arith, c.loop-kind.invariant.0) in (
      shorter,
      room,
      goes_on text left behind next c.loop-kind.all.items c.push_reserved.new.self.items _ c.loop-kind.invariant.2 c.push_reserved.ensures.items found placed_here blank,
      ends_later text left next ends later,
      c.without_blanks-left-in-Some.utf8,
    )

pub returns : goal.returns
returns c =
    ends_here c.args.text.now c.loop-kind.left.now c.loop-kind.all.items _ c.loop-kind.invariant.2 c.in_default.ensures (omega (arith, c.loop-kind.invariant.0))
