use Rattle.std.proofs.Common.{Bor, List, ap, sym, ◌∙◌, ◌||◌}
use Rattle.group_tree.specs.Names.{Name, is_among, same_name}
use Rattle.step_lints.specs.Inside.{names_of}
use Rattle.step_lints.proofs.OnceLemmas.{among_pushed, names_pushed}
use Rattle.step_lints.proofs.unset_names.add.Goals as goal

pub returns-clause-list : goal.returns-clause-list
returns-clause-list c = ap names_of c.in_ok-push.ensures.items ∙ names_pushed c.args.list.now.items c.args.name

pub returns-clause-found : goal.returns-clause-found
returns-clause-found c =
    λ name. c.in_ok-add.ensures name ∙ ap (λ b. b || same_name name c.args.name.now) (c.requires name)
    ∙ sym (ap (λ (l : List (Bor Name)). is_among name (names_of l)) c.in_ok-push.ensures.items ∙ among_pushed c.args.list.now.items c.args.name name)
