use Rattle.std.proofs.Common.{Bool, None, false, ◌||◌, cond, ap, ◌∙◌}
use Rattle.std.specs.HashMap.{keys}
use Rattle.group_tree.specs.Names.{Name}
use Rattle.play_model.specs.Registers.{stands_in}
use Rattle.play_model.specs.Results.{result_of}
use Rattle.play_model.proofs.BeginLemmas.{all_taken}
use Rattle.play_model.proofs.results.Results.begin_play.Goals as goal

pub returns-clause-results : goal.returns-clause-results
returns-clause-results c =
    λ (name : Name).
    let shared = c.in_ok-take_all.ensures.results (λ other. false) c.in_ok-copy.ensures.results in
    let all = c.in_ok-take_all-2.ensures.results (λ other. stands_in other c.shared_names.result.now || false) shared name in
    let own = ap (stands_in name) (c.as_slice.ensures ∙ c.keys.ensures.rest) in
    let numbers = c.shared_names.ensures name in
    let taken = λ (by_own by_number : Bool). cond (by_own || (by_number || false)) (result_of c.args.self.now name) None in
    all
    ∙ ap (λ (b : Bool). taken b (stands_in name c.shared_names.result.now)) own
    ∙ ap (taken (stands_in name (keys c.args.self.now.own))) numbers
    ∙ all_taken c.args.self.now name
