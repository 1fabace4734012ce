use Rattle.lint_rules.proofs.HintLemmas.{hint_line}
use Rattle.lint_rules.proofs.hints.write_hint.Goals as goal

pub returns : goal.returns
returns g c =
    hint_line g.W.Write.contents c.args.kind c.row-row.result.name.now c.row-row.result.hint.now _ _ c.row-row.ensures.name c.write_line.ensures
