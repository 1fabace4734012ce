use Rattle.std.proofs.Common.{not, sym, ap, ◌∙◌}
use Rattle.playbook_schema.specs.Verdicts.{lent_texts}
use Rattle.playbook_schema.proofs.NameLaws.{among_lent, lent_more}
use Rattle.playbook_schema.proofs.name_list.NameList.add.Goals as goal

pub returns-clause-new : goal.returns-clause-new
returns-clause-new c =
    c.in_ok-insert.ensures.added ∙ ap not (sym (among_lent c.args.name.now c.args.self.now.names.keys))

pub returns-clause-names : goal.returns-clause-names
returns-clause-names c =
    ap lent_texts c.in_ok-insert.ensures.keys ∙ lent_more c.args.self.now.names.keys c.args.name _ (among_lent c.args.name.now c.args.self.now.names.keys)
