use Rattle.domains.specs.Patterns.{names_nothing}
use Rattle.playbook_schema.specs.Known.{known}
use Rattle.all_faults.proofs.Unknown.{added_part, known_part}
use Rattle.all_faults.proofs.pattern_names.add_part.Goals as goal

pub returns-then-names_something-clause-told : goal.returns-then-names_something-clause-told
returns-then-names_something-clause-told c =
    known_part c.args.told.now (known c.args.before.now) c.args.part.now (names_nothing c.args.fleet.now c.args.part.now) c.names_something.result c.names_something.ensures c.if-names_something.true

pub returns-then-not-is_new-clause-told : goal.returns-then-not-is_new-clause-told
returns-then-not-is_new-clause-told c =
    added_part c.args.told.now (known c.args.before.now) c.args.part.now (names_nothing c.args.fleet.now c.args.part.now) c.names_something.result c.in_ok-is_new.is_new c.names_something.ensures c.if-names_something.false
    c.in_ok-is_new.ensures.new c.if-not-is_new.true
