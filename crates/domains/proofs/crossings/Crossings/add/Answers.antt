use Rattle.std.proofs.Common.{ℕ, true, false, append-nil, length, sym, ◌∙◌, arith}
use Rattle.std.proofs.lemmas.Nat.{mul-add-lt}
use Rattle.fleet_index.specs.Chains.{ends_before}
use Rattle.domains.proofs.PairLemmas.{seen_more, seen_same}
use Rattle.domains.proofs.crossings.Crossings.add.Goals as goal

pub set_mark-requires : goal.set_mark-requires
set_mark-requires c =
    let n : ℕ = length c.args.ends.now in
    omega (arith, c.requires.sized, mul-add-lt c.args.crossing.first n c.args.crossing.second n c.requires.first_in c.requires.second_in)

pub returns-then-not-crosses-clause-seen : goal.returns-then-not-crosses-clause-seen
returns-then-not-crosses-clause-seen c = λ seen before.
    seen_same (length c.args.ends.now) (ends_before c.args.ends.now) seen c.args.crossing c.args.self.now.found.items c.args.self.now.marks.items
    (sym c.crosses.ensures ∙ c.if-not-crosses.true) before

pub returns-then-set_mark-clause-seen : goal.returns-then-set_mark-clause-seen
returns-then-set_mark-clause-seen c = λ seen before.
    let found = c.args.self.now.found.items in
    seen_more (length c.args.ends.now) (ends_before c.args.ends.now) seen c.args.crossing found found c.args.self.now.marks.items c.set_mark.new.marks.items true before
    (sym c.crosses.ensures ∙ c.if-not-crosses.false) c.requires.first_in c.requires.second_in (sym c.if-set_mark.true ∙ c.set_mark.ensures.was) (sym (append-nil found))
    (λ place l. c.set_mark.ensures.marked place (omega (arith, l, c.requires.sized)))

pub returns-clause-seen : goal.returns-clause-seen
returns-clause-seen c = λ seen before.
    seen_more (length c.args.ends.now) (ends_before c.args.ends.now) seen c.args.crossing c.args.self.now.found.items c.push.new.self.items
    c.args.self.now.marks.items c.set_mark.new.marks.items false before (sym c.crosses.ensures ∙ c.if-not-crosses.false) c.requires.first_in c.requires.second_in
    (sym c.if-set_mark.false ∙ c.set_mark.ensures.was) c.in_ok-push.ensures.items (λ place l. c.set_mark.ensures.marked place (omega (arith, l, c.requires.sized)))
