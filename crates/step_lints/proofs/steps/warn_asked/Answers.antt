use Rattle.std.proofs.Common.{◌++◌, ◌==◌, false, List, flat_map, ap, sym, ◌∙◌}
use Rattle.group_tree.specs.Names.{Name}
use Rattle.step_lints.specs.Hosts.{misses_by, name_note}
use Rattle.step_lints.specs.Inside.{crowd_of, missed_from, names_of}
use Rattle.lint_rules.specs.Notes.{Note, noted}
use Rattle.step_lints.proofs.NameLemmas.{none_noted}
use Rattle.inventory_lints.proofs.NotedLemmas.{on_ok}
use Rattle.step_lints.proofs.steps.warn_asked.Goals as goal

pub returns-then-is_empty : goal.returns-then-is_empty
returns-then-is_empty c =
    let crowd = crowd_of c.args.asked.now.crowd in
    let lacking = misses_by crowd (missed_from c.args.asked.now.stand c.args.asked.now.crowd.lacks.now.vars.now) c.args.step.now in
    none_noted (λ (name : Name). noted (name_note crowd false lacking c.args.at name)) c.in_ok-names.names.items _ c.args.notes.now
    (ap (λ n. n == 0) (sym c.in_ok-names.names.ok.0) ∙ sym c.is_empty.ensures ∙ c.if-is_empty.true) c.in_ok-names.ensures

pub returns : goal.returns
returns c =
    let crowd = crowd_of c.args.asked.now.crowd in
    let lacking = misses_by crowd (missed_from c.args.asked.now.stand c.args.asked.now.crowd.lacks.now.vars.now) c.args.step.now in
    let notes : List Name → List Note = λ names. flat_map (λ (name : Name). noted (name_note crowd false lacking c.args.at name)) names in
    on_ok c.warn_unset.result _ _ _ c.warn_unset.ensures (ap (λ (l : List Name). c.args.notes.now ++ notes l) (ap names_of c.as_slice.ensures.value ∙ c.in_ok-names.ensures))
