use Rattle.std.proofs.Common.{sym, ap, ◌∙◌}
use Rattle.serde_json.specs.View.{view}
use Rattle.playbook_schema.specs.Faults.{key_name}
use Rattle.playbook_schema.specs.Places.{spot_of}
use Rattle.play_read.proofs.Given.{says_given, some_listed, texts_kept}
use Rattle.play_read.proofs.conditions.read_given.Goals as goal

pub returns-clause-says : goal.returns-clause-says
returns-clause-says c = λ kept.
    let spot = spot_of c.args.place in
    let key = key_name c.args.key in
    let value = view c.args.value.now in
    says_given spot key value _ c.clauses_listed-list.ensures kept c.in_ok-all.all c.finish.result
    (c.in_ok-all.ensures.says (texts_kept spot key value _ c.clauses_listed-list.ensures kept))
    (some_listed view c.clauses_listed-list.result.now (sym c.is_empty.ensures ∙ c.if-is_empty.false)) c.finish.ensures
