use Rattle.std.proofs.Common.{◌++◌, List, sym, ap, ◌∙◌, subst, append-nil}
use Rattle.std.proofs.lemmas.Bool.{both_ways}
use Rattle.std.specs.Prelude.{option_to_list}
use Rattle.rehearse.specs.declared.stage.Stage.{Stage}
use Rattle.rehearse.specs.Kept.{IsKept}
use Rattle.rehearse.specs.Stacks.{RehearsalView}
use Rattle.rehearse.proofs.StackLemmas.{kept-pop}
use Rattle.rehearse.proofs.rehearsal.Rehearsal.undo.Goals as goal
use Rattle.rehearse.proofs.rehearsal.Rehearsal.undo.Goals.{in-Some, in-None}

pub invariant_of-self : goal.invariant_of-self
invariant_of-self c =
    let rehearsal : RehearsalView =
    record {
      rules = record { fleet = c.self.inside.fleet.now; mode = c.self.inside.mode; caps = c.self.inside.caps.now; percentage = c.self.inside.max_fail };
      opening = c.self.inside.opening.now;
      first = c.self.inside.first;
      above = c.self.inside.above.items;
    } in
    let new : RehearsalView = record rehearsal { above = c.pop.new.self.items } in
    elim c.match-pop.branch [
      | in-Some w ↦ kept-pop new w.in-Some._stage
          (subst (λ (l : List Stage). IsKept (record rehearsal { above = l })) (c.pop.ensures.items ∙ ap (λ o. c.pop.new.self.items ++ option_to_list o) w.in-Some.is) c.self.invariant)
      | in-None w ↦ subst (λ (l : List Stage). IsKept (record rehearsal { above = l }))
          (c.pop.ensures.items ∙ ap (λ o. c.pop.new.self.items ++ option_to_list o) w.in-None.is ∙ append-nil c.pop.new.self.items) c.self.invariant
    ]

pub returns-clause-undone : goal.returns-clause-undone
returns-clause-undone c =
    let rehearsal : RehearsalView =
    record {
      rules = record { fleet = c.self.inside.fleet.now; mode = c.self.inside.mode; caps = c.self.inside.caps.now; percentage = c.self.inside.max_fail };
      opening = c.self.inside.opening.now;
      first = c.self.inside.first;
      above = c.self.inside.above.items;
    } in
    elim c.match-pop.branch [
      | in-Some w ↦ λ gone. record {
        stage = w.in-Some._stage;
        shrunk =
            sym c.self.view_is
            ∙ ap (λ (l : List Stage). record rehearsal { above = l }) (c.pop.ensures.items ∙ ap (λ o. c.pop.new.self.items ++ option_to_list o) w.in-Some.is);
      }
      | in-None w ↦ λ gone. absurd (both_ways c.match-pop.result w.result-is gone)
    ]
