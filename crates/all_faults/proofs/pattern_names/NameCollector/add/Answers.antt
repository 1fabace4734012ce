use Rattle.std.proofs.Common.{List, ℕ, Some, ap, sym, ◌∙◌}
use Rattle.std.proofs.lemmas.Result.{on_ok_weaker}
use Rattle.text_syntax.proofs.Tellings.{told_where, left_where}
use Rattle.all_faults.proofs.pattern_names.NameCollector.add.Goals as goal

pub returns-then-not-has_room : goal.returns-then-not-has_room
returns-then-not-has_room c =
    on_ok_weaker c.count.result (left_where c.args.self.now _ _ (sym c.has_room.ensures ∙ c.if-not-has_room.true)) c.count.ensures

pub returns : goal.returns
returns c =
    on_ok_weaker c.keep.result (told_where c.args.self.now _ _ _ (sym c.has_room.ensures ∙ c.if-not-has_room.false) (ap (λ (name : List ℕ). Some name) c.in_ok-name.ensures.ok)) c.keep.ensures
