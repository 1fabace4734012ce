-- Going forth and back.
use Rattle.std.proofs.Common.{◌≡◌, ◌⊎◌, List, [], ◌∷◌, refl, sym, ap, ◌∙◌, inl, inr}
use Rattle.fleet_states.specs.declared.status.Status.{Status}
use Rattle.rehearse.specs.declared.stage.Stage.{Stage}
use Rattle.rehearse.specs.Stacks.{RehearsalView, Rules}
use Rattle.rehearse.specs.RehearsalLaws.{AreSteps, IsStep, UndoneAllIsOpening, last_of}

-- what no step changes
record HasOneGround (old new : RehearsalView) : Type 0 where
  rules : new.rules ≡ old.rules
  opening : new.opening ≡ old.opening
  first : new.first ≡ old.first

step_has_one_ground : (old new : RehearsalView) → IsStep old new → HasOneGround old new
step_has_one_ground old new (inl advanced) = record {
  rules = ap (λ (r : RehearsalView). r.rules) advanced.1.grown;
  opening = ap (λ (r : RehearsalView). r.opening) advanced.1.grown;
  first = ap (λ (r : RehearsalView). r.first) advanced.1.grown;
}
step_has_one_ground old new (inr undone) = record {
  rules = sym (ap (λ (r : RehearsalView). r.rules) undone.shrunk);
  opening = sym (ap (λ (r : RehearsalView). r.opening) undone.shrunk);
  first = sym (ap (λ (r : RehearsalView). r.first) undone.shrunk);
}

steps_have_one_ground : (old : RehearsalView) (views : List RehearsalView) → AreSteps old views → HasOneGround old (last_of old views)
steps_have_one_ground old [] are = record { rules = refl; opening = refl; first = refl }
steps_have_one_ground old (new ∷ rest) are =
    let step = step_has_one_ground old new are.0 in
    let later = steps_have_one_ground new rest are.1 in
    record { rules = later.rules ∙ step.rules; opening = later.opening ∙ step.opening; first = later.first ∙ step.first }

abbrev view_of : Rules → List Status → Stage → List Stage → RehearsalView
view_of rules opening first above = record { rules = rules; opening = opening; first = first; above = above }

pub undone_all_is_opening : UndoneAllIsOpening
undone_all_is_opening opening views none are back =
    let ground = steps_have_one_ground opening views are in
    let last = last_of opening views in
    ap (λ r. view_of r last.opening last.first last.above) ground.rules
    ∙ ap (λ o. view_of opening.rules o last.first last.above) ground.opening
    ∙ ap (λ f. view_of opening.rules opening.opening f last.above) ground.first
    ∙ ap (λ a. view_of opening.rules opening.opening opening.first a) (back ∙ sym none)
