use Rattle.std.proofs.Common.{Bor, List, ap, ◌∙◌}
use Rattle.group_tree.specs.Names.{Name}
use Rattle.undefined_names.specs.Lent.{lent_names}
use Rattle.undefined_names.proofs.Onces.{with_key}
use Rattle.undefined_names.proofs.found.Found.add.Goals as goal

pub returns : goal.returns
returns c =
    ap (λ (keys : List (Bor Name)). lent_names keys) c.in_ok-insert.ensures.keys ∙ with_key c.args.self.now.names.keys c.args.name
