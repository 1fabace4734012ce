use Rattle.std.proofs.Common.{◌∙◌, ◌++◌, ◌∷◌, [], List, ℕ, ap, arith}
use Rattle.fleet_index.proofs.RunLemmas.{added}
use Rattle.fleet_index.proofs.lists.NumberLists.add.Goals as goal

pub returns-clause-ok : goal.returns-clause-ok
returns-clause-ok c =
    let inside = c.self.inside in
    let longer = c.in_ok-extend_from_slice.ensures.items in
    let size = c.len.ensures in
    let all = added inside.numbers.items inside.ends.items c.extend_from_slice.new.self.items c.push.new.self.items c.args.numbers.now c.args.self.now c.len.result
    c.self.invariant c.self.view_is longer (c.in_ok-push.ensures.items ∙ ap (λ (l : List ℕ). l ++ c.len.result ∷ []) c.reserve.ensures.items)
    (omega (arith, size, c.extend_from_slice.new.self.ok.0)) in
    all.0
