use Rattle.std.proofs.Common.{sym, ◌∙◌}
use Rattle.std.proofs.lemmas.Result.{on_ok_weaker}
use Rattle.text_syntax.proofs.Tellings.{told_where, left_where}
use Rattle.playbook_schema.proofs.collector.FaultCollector.add_fault.Goals as goal

pub returns-then-has_room : goal.returns-then-has_room
returns-then-has_room c = λ named is.
    on_ok_weaker c.keep.result (told_where c.args.self.now _ _ named (sym c.has_room.ensures ∙ c.if-has_room.true) is) c.keep.ensures

pub returns-else-has_room : goal.returns-else-has_room
returns-else-has_room c = λ named is.
    on_ok_weaker c.count.result (left_where c.args.self.now _ named (sym c.has_room.ensures ∙ c.if-has_room.false)) c.count.ensures
