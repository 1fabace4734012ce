use Rattle.std.proofs.Common.{refl, sym, ◌∙◌}
use Rattle.std.proofs.lemmas.Result.{on_ok_weaker}
use Rattle.text_syntax.proofs.Tellings.{told_where, left_where}
use Rattle.playbook_schema.specs.Checks.{rule}
use Rattle.playbook_schema.specs.Places.{path_at, spot_of}
use Rattle.playbook_schema.specs.Verdicts.{breach_at, breach_from}
use Rattle.playbook_schema.proofs.AddLaws.{adds_broken}
use Rattle.playbook_schema.proofs.PathLaws.{breach_from_in}
use Rattle.playbook_schema.proofs.collector.FaultCollector.add.Goals as goal

pub returns-then-not-has_room : goal.returns-then-not-has_room
returns-then-not-has_room c =
    let at = path_at c.args.place in
    let spot = spot_of c.args.place in
    let found = breach_from at spot c.args.flaw in
    on_ok_weaker c.count.result
    (λ counted. adds_broken at _ _ (breach_at spot c.args.flaw) found (breach_from_in at spot c.args.flaw) (left_where c.args.self.now _ (rule found) (sym c.has_room.ensures ∙ c.if-not-has_room.true) counted))
    c.count.ensures

pub returns : goal.returns
returns c =
    let at = path_at c.args.place in
    let spot = spot_of c.args.place in
    let found = breach_from at spot c.args.flaw in
    on_ok_weaker c.keep.result
    (λ kept. adds_broken at _ _ (breach_at spot c.args.flaw) found (breach_from_in at spot c.args.flaw) (told_where c.args.self.now _ _ (rule found) (sym c.has_room.ensures ∙ c.if-not-has_room.false) c.in_ok-fault.ensures kept))
    c.keep.ensures
