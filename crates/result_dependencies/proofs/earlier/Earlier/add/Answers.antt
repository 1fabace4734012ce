use Rattle.std.proofs.Common.{◌||◌, Bor, List, sym, ap, ◌∙◌}
use Rattle.std.specs.List.{list_any}
use Rattle.group_tree.specs.Names.{Name, same_name}
use Rattle.result_dependencies.specs.Registers.{is_called}
use Rattle.result_dependencies.specs.Lookups.{has_gathered}
use Rattle.result_dependencies.proofs.Gathering.{with_key}
use Rattle.result_dependencies.proofs.earlier.Earlier.add.Goals as goal

pub returns-in_ok-insert : goal.returns-in_ok-insert
returns-in_ok-insert c = λ name.
    ap (λ (keys : List (Bor Name)). list_any (λ (key : Bor Name). same_name name key.now) keys) c.in_ok-insert.ensures.keys
    ∙ with_key c.args.self.now.names.keys c.as_str.result name
    ∙ ap (λ b. has_gathered c.args.self.now name || b) (ap (same_name name) c.as_str.ensures.value ∙ sym (ap (is_called name) c.in-Some.is))
