use Rattle.std.proofs.Common.{ℕ, Bool, Option, false, get_or, option_map, ap, ◌∙◌}
use Rattle.std.specs.List.{find}
use Rattle.group_tree.specs.declared.ids.GroupId.{GroupId}
use Rattle.run_diagnosis.proofs.FullLemmas.{number_of_first}
use Rattle.run_diagnosis.proofs.full.first_full.Goals as goal

pub returns : goal.returns
returns c =
    let test : ℕ → Bool = λ group. get_or c.args.full.now group false in
    ap (λ (first : Option GroupId). option_map (λ (group : GroupId). group.index) first) c.first_of.ensures
    ∙ number_of_first test c.chain.result.now ∙ ap (find test) c.chain.ensures.chain
