use Rattle.std.proofs.Common.{◌≡◌, ◌&&◌, ◌||◌, not, Bool, ap, subst, ◌∙◌}
use Rattle.std.specs.Prelude.{IfOk}
use Rattle.group_tree.specs.Names.{Name, is_among}
use Rattle.result_dependencies.specs.Needs.{tasks_before}
use Rattle.result_dependencies.specs.Registers.{is_registered_by}
use Rattle.step_lints.specs.Inside.{has_missed, has_name, names_of}
use Rattle.step_lints.specs.NamesRead.{read_once}
use Rattle.step_lints.specs.Results.{is_unsure, whole_in_words}
use Rattle.step_lints.proofs.results.list_unsure.Goals as goal

pub returns : goal.returns
returns c =
    let is_set = has_name c.args.asked.now.registered.now in
    let tasks = tasks_before c.args.play.now c.args.asked.now.stand.place in
    let step = c.args.step.now in
    let holds : Name → Bool = λ name.
    is_set name && ((not (is_registered_by tasks name) && not (has_missed c.in_ok-guarded.guarded name)) || has_missed c.in_ok-whole.whole name) in
    let same : (name : Name) → holds name ≡ is_unsure is_set tasks step name = λ name.
    ap (λ b. is_set name && ((not (is_registered_by tasks name) && not (has_missed c.in_ok-guarded.guarded name)) || b)) (c.in_ok-whole.ensures name)
    ∙ ap (λ b. is_set name && ((not (is_registered_by tasks name) && not b) || is_among name (whole_in_words step.words))) (c.in_ok-guarded.ensures name) in
    subst (λ (p : Name → Bool). IfOk c.list_once.result (λ list. names_of list.items ≡ read_once p p step)) (λ i. λ name. same name i) c.list_once.ensures
