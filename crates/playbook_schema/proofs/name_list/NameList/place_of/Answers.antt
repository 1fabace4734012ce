use Rattle.std.proofs.Common.{sym, ◌∙◌}
use Rattle.playbook_schema.proofs.NameLaws.{place_lent, among_lent}
use Rattle.playbook_schema.proofs.name_list.NameList.place_of.Goals as goal

pub returns-clause-place : goal.returns-clause-place
returns-clause-place c =
    c.get_index_of.ensures.index ∙ sym (place_lent c.args.name.now c.args.self.now.names.keys)

pub returns-clause-found : goal.returns-clause-found
returns-clause-found c =
    c.get_index_of.ensures.found ∙ sym (among_lent c.args.name.now c.args.self.now.names.keys)
