use Rattle.std.proofs.Common.{ℕ, ◌++◌, Option, append-nil, sym, ap, ◌∙◌}
use Rattle.domains.specs.Findings.{over_by}
use Rattle.domains.proofs.starts.push_over.Goals as goal

pub returns-in-None : goal.returns-in-None
returns-in-None c =
    sym (append-nil c.args.found.now.items) ∙ ap (λ (limit : Option ℕ). c.args.found.now.items ++ over_by c.args.group limit c.args.down) (sym c.in-None.is)
