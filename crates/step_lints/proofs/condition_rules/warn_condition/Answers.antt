use Rattle.std.proofs.Common.{◌≡◌, ◌++◌, List, Option, option_map, ap, ◌∙◌}
use Rattle.step_lints.specs.Doubts.{doubt_note, first_doubted, noted_doubt}
use Rattle.step_lints.specs.Inside.{said_all}
use Rattle.step_lints.specs.Tests.{Stated, tests_if}
use Rattle.lint_rules.specs.Notes.{Note, noted}
use Rattle.step_lints.specs.declared.condition_rules.ConditionRule.{ConditionRule}
use Rattle.step_lints.specs.declared.condition_rules.ConditionRule.TheVariants.{NamesNoGroup, NamesNoHost, HasHole, IsConstant}
use Rattle.inventory_lints.proofs.NotedLemmas.{two_noted}
use Rattle.step_lints.proofs.condition_rules.warn_condition.Goals as goal

pub returns : goal.returns
returns c =
    let fleet = c.args.fleet.now in
    let tasks = c.args.tasks.now in
    let key = c.args.keyed.0.now in
    let condition = c.args.keyed.1.now in
    let before = c.args.notes.now in
    let first = c.add.new.self in
    let second = c.add-2.new.self in
    let third = c.add-3.new.self in
    let all = c.add-4.new.self in
    let of : ConditionRule → List Note = λ doubt. noted (doubt_note doubt fleet tasks c.args.at key condition) in
    let by : ConditionRule → List Stated → Option Note = λ doubt tests. option_map (noted_doubt doubt c.args.at key) (first_doubted doubt fleet tasks tests) in
    let tests : said_all c.as_slice-tests.result.now ≡ tests_if condition = ap said_all c.as_slice-tests.ensures.value ∙ c.in_ok-listed.ensures in
    let holes = of HasHole in
    let constants = of IsConstant in
    let hosts = of NamesNoHost in
    two_noted before first all (of NamesNoGroup) (hosts ++ (holes ++ constants))
    (c.in_ok-add.ensures ∙ ap (λ (note : Option Note). before ++ noted note) (c.doubt_note.ensures ∙ ap (by NamesNoGroup) tests))
    (two_noted first second all hosts (holes ++ constants) (c.in_ok-add-2.ensures ∙ ap (λ (note : Option Note). first ++ noted note) (c.doubt_note-2.ensures ∙ ap (by NamesNoHost) tests))
    (two_noted second third all holes constants (c.in_ok-add-3.ensures ∙ ap (λ (note : Option Note). second ++ noted note) (c.doubt_note-3.ensures ∙ ap (by HasHole) tests))
    (c.in_ok-add-4.ensures ∙ ap (λ (note : Option Note). third ++ noted note) (c.doubt_note-4.ensures ∙ ap (by IsConstant) tests))))
