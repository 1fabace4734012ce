use Rattle.std.proofs.Common.{◌++◌, ◌==◌, true, List, append-nil, flat_map, ap, sym, ◌∙◌}
use Rattle.group_tree.specs.Names.{Name}
use Rattle.result_dependencies.specs.Needs.{tasks_before}
use Rattle.step_lints.specs.Hosts.{misses, name_note}
use Rattle.step_lints.specs.Inside.{crowd_of, has_name, missed_from, names_of}
use Rattle.lint_rules.specs.Notes.{Note, noted}
use Rattle.step_lints.specs.declared.waiting.WaitingHosts as code
use Rattle.step_lints.specs.declared.step_context.StepContext.{StepContext}
use Rattle.step_lints.proofs.NameLemmas.{none_noted, none_unsure}
use Rattle.inventory_lints.proofs.NotedLemmas.{on_ok}
use Rattle.step_lints.proofs.steps.warn_results.Goals as goal

pub returns-then-is_empty : goal.returns-then-is_empty
returns-then-is_empty c =
    let before = c.args.notes.now in
    let stand = c.args.asked.now.stand in
    let crowd = c.args.asked.now.crowd in
    let told : Name → List Note = λ name. noted (name_note (crowd_of crowd) true (misses (missed_from stand crowd.lacks.now.vars.now)) c.args.at name) in
    sym (append-nil before)
    ∙ ap (λ (l : List Name). before ++ flat_map told l)
    (none_unsure (has_name c.args.asked.now.registered.now) (λ name. c.is_empty.ensures name c.if-is_empty.true) (tasks_before c.args.play.now stand.place) c.args.step.now)

pub returns-then-is_empty-2 : goal.returns-then-is_empty-2
returns-then-is_empty-2 c =
    let stand = c.args.asked.now.stand in
    let crowd = c.args.asked.now.crowd in
    let told : Name → List Note = λ name. noted (name_note (crowd_of crowd) true (misses (missed_from stand crowd.lacks.now.vars.now)) c.args.at name) in
    none_noted told c.in_ok-names.names.items _ c.args.notes.now
    (ap (λ n. n == 0) (sym c.in_ok-names.names.ok.0) ∙ sym c.is_empty-2.ensures ∙ c.if-is_empty-2.true) c.in_ok-names.ensures

pub returns : goal.returns
returns c =
    let before = c.args.notes.now in
    let stand = c.args.asked.now.stand in
    let crowd = c.args.asked.now.crowd in
    let notes : code.WaitingHosts → StepContext → List Name → List Note =
    λ of there names. flat_map (λ (name : Name). noted (name_note (crowd_of of) true (misses (missed_from there of.lacks.now.vars.now)) c.args.at name)) names in
    let lent = names_of c.as_slice.result.now in
    on_ok c.warn_missed.result _ _ _ c.warn_missed.ensures
    (ap (λ (of : code.WaitingHosts). before ++ notes of c.in_ok-askers.askers.stand lent) c.in_ok-askers.ensures.crowd
    ∙ ap (λ (there : StepContext). before ++ notes crowd there lent) c.in_ok-askers.ensures.stand
    ∙ ap (λ (l : List Name). before ++ notes crowd stand l) (ap names_of c.as_slice.ensures.value ∙ c.in_ok-names.ensures))
