use Rattle.std.proofs.Common.{Bor, List, ap, ◌∙◌}
use Rattle.std.specs.List.{list_any}
use Rattle.group_tree.specs.Names.{Name, same_name}
use Rattle.result_dependencies.proofs.Gathering.{with_key}
use Rattle.step_lints.proofs.name_set.NameSet.add.Goals as goal

pub returns : goal.returns
returns c = λ name.
    ap (λ (keys : List (Bor Name)). list_any (λ (key : Bor Name). same_name name key.now) keys) c.in_ok-insert.ensures.keys ∙ with_key c.args.self.now.names.keys c.args.added name
