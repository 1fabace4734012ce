use Rattle.std.proofs.Common.{◌≡◌, ℕ, List, None, string_bytes, subst, sym, ◌∙◌}
use Rattle.std.specs.HashMap.{get_by_text}
use Rattle.std.proofs.lemmas.Map.Text.{hash_map_updates_text}
use Rattle.std.proofs.lemmas.Result.{IfOk-at_ok}
use Rattle.play_model.specs.Results.{shared_at}
use Rattle.play_model.proofs.PlaceLemmas.{Places, SetsAt, place_more, results_stay}
use Rattle.play_model.proofs.results.Results.reserve.Goals as goal

pub returns-clause-place : goal.returns-clause-place
returns-clause-place c =
    let old : Places = get_by_text c.args.self.now.own in
    let new : Places = get_by_text c.insert.new.self in
    let key = string_bytes c.in_ok-key.key in
    let is_name = IfOk-at_ok (λ s. string_bytes s ≡ c.args.name.now) c.in_ok-key.was c.from_str.ensures.ok in
    let sets : SetsAt old new key None = hash_map_updates_text key c.args.self.now.own c.insert.new.self _ c.in_ok-insert.ensures.updates in
    place_more (shared_at c.args.self.now) old new c.args.name.now (subst (λ (name : List ℕ). SetsAt old new name None) is_name sets)

pub returns-clause-results : goal.returns-clause-results
returns-clause-results c =
    let old : Places = get_by_text c.args.self.now.own in
    let new : Places = get_by_text c.insert.new.self in
    let key = string_bytes c.in_ok-key.key in
    let is_name = IfOk-at_ok (λ s. string_bytes s ≡ c.args.name.now) c.in_ok-key.was c.from_str.ensures.ok in
    let sets : SetsAt old new key None = hash_map_updates_text key c.args.self.now.own c.insert.new.self _ c.in_ok-insert.ensures.updates in
    let free = sym c.is_reserved.ensures ∙ c.if-is_reserved.false in
    results_stay (shared_at c.args.self.now) old new c.args.name.now (subst (λ (name : List ℕ). SetsAt old new name None) is_name sets) free
