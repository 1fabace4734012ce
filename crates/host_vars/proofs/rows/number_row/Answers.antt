use Rattle.std.proofs.Common.{◌≡◌, ℕ, ◌∙◌, List, [], ◌∷◌, ◌++◌, length, ap}
use Rattle.host_vars.proofs.RowLemmas.{alone_rises, none_rises, alone_is, none_is}
use Rattle.host_vars.proofs.rows.number_row.Goals as goal

pub returns-in_ok-push-in-Some-clause-rise : goal.returns-in_ok-push-in-Some-clause-rise
returns-in_ok-push-in-Some-clause-rise c =
    let is : c.push.new.self.items ≡ c.in-Some.host.index ∷ [] = c.in_ok-push-in-Some.ensures.items ∙ ap (λ (l : List ℕ). l ++ c.in-Some.host.index ∷ []) c.new-numbers.ensures.items in
    alone_rises (length c.args.fleet.now.hosts) c.in-Some.host.index c.push.new.self.items c.in-Some.ensures.0 is

pub returns-in_ok-push-in-Some-clause-own : goal.returns-in_ok-push-in-Some-clause-own
returns-in_ok-push-in-Some-clause-own c =
    let is : c.push.new.self.items ≡ c.in-Some.host.index ∷ [] = c.in_ok-push-in-Some.ensures.items ∙ ap (λ (l : List ℕ). l ++ c.in-Some.host.index ∷ []) c.new-numbers.ensures.items in
    λ host within.
    alone_is c.args.fleet.now.hosts c.args.name.now c.in-Some.host.index host c.push.new.self.items is (c.in-Some.ensures.2 host within)

pub returns-in-None-clause-rise : goal.returns-in-None-clause-rise
returns-in-None-clause-rise c =
    none_rises (length c.args.fleet.now.hosts) c.new.result.items c.new.ensures.items

pub returns-in-None-clause-own : goal.returns-in-None-clause-own
returns-in-None-clause-own c =
    λ host within.
    none_is c.args.fleet.now.hosts c.args.name.now host c.new.result.items within c.new.ensures.items c.in-None.ensures
