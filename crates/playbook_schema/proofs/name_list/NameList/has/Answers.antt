use Rattle.std.proofs.Common.{sym, ◌∙◌}
use Rattle.playbook_schema.proofs.NameLaws.{among_lent}
use Rattle.playbook_schema.proofs.name_list.NameList.has.Goals as goal

pub returns : goal.returns
returns c = c.contains.ensures ∙ sym (among_lent c.args.name.now c.args.self.now.names.keys)
