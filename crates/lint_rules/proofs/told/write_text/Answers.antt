use Rattle.std.proofs.Common.{map}
use Rattle.lint_rules.specs.Notes.{isnt_allowed, seen}
use Rattle.lint_rules.proofs.ToldLemmas.{whole_text}
use Rattle.lint_rules.proofs.told.write_text.Goals as goal

pub returns-clause-writes : goal.returns-clause-writes
returns-clause-writes g c =
    whole_text g.W.Write.contents (isnt_allowed c.args.allowed.now) (map seen c.args.notes.now) c.write_lines-count.result _ _ _ _ _
    c.write_lines-count.ensures.writes c.write_lines-count.ensures.count c.write_count.ensures c.write_hints.ensures c.write_last.ensures
