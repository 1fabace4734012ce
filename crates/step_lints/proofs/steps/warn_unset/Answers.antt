use Rattle.std.proofs.Common.{◌++◌, false, Bool, ℕ, List, flat_map, ap, sym, ◌∙◌}
use Rattle.std.specs.Prelude.{if◌then◌else◌}
use Rattle.group_tree.specs.Names.{Name}
use Rattle.step_lints.specs.Hosts.{lacks, misses, name_note}
use Rattle.step_lints.specs.Inside.{crowd_of, missed_from, names_of}
use Rattle.lint_rules.specs.Notes.{Note, noted}
use Rattle.step_lints.specs.declared.waiting.WaitingHosts as code
use Rattle.step_lints.specs.declared.step_context.StepContext.{StepContext}
use Rattle.inventory_lints.proofs.NotedLemmas.{on_ok}
use Rattle.step_lints.proofs.steps.warn_unset.Goals as goal

pub returns-then-not-has_conditions : goal.returns-then-not-has_conditions
returns-then-not-has_conditions c =
    let crowd = crowd_of c.args.asked.now.crowd in
    let missing = misses (missed_from c.args.asked.now.stand c.args.asked.now.crowd.lacks.now.vars.now) in
    let notes : (Name → ℕ → Bool) → List Note = λ lacking. flat_map (λ (name : Name). noted (name_note crowd false lacking c.args.at name)) (names_of c.args.names.now) in
    on_ok c.warn_names.result _ _ _ c.warn_names.ensures
    (ap (λ (b : Bool). c.args.notes.now ++ notes (if b then missing else lacks crowd)) (sym c.if-not-has_conditions.true ∙ c.has_conditions.ensures))

pub returns : goal.returns
returns c =
    let crowd = c.args.asked.now.crowd in
    let missing : code.WaitingHosts → StepContext → Name → ℕ → Bool = λ of stand. misses (missed_from stand of.lacks.now.vars.now) in
    let notes : code.WaitingHosts → (Name → ℕ → Bool) → List Note = λ of lacking. flat_map (λ (name : Name). noted (name_note (crowd_of of) false lacking c.args.at name)) (names_of c.args.names.now) in
    on_ok c.warn_missed.result _ _ _ c.warn_missed.ensures
    (ap (λ (of : code.WaitingHosts). c.args.notes.now ++ notes of (missing of c.in_ok-askers.askers.stand)) c.in_ok-askers.ensures.crowd
    ∙ ap (λ (stand : StepContext). c.args.notes.now ++ notes crowd (missing crowd stand)) c.in_ok-askers.ensures.stand
    ∙ ap (λ (b : Bool). c.args.notes.now ++ notes crowd (if b then missing crowd c.args.asked.now.stand else lacks (crowd_of crowd))) (sym c.if-not-has_conditions.false ∙ c.has_conditions.ensures))
