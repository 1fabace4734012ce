-- What is said of a flow that goes on, and of one that breaks.
use Rattle.std.proofs.Common.{◌≡◌, Bool, true, false, ControlFlow, Continue, Break, sym, ap, ◌∙◌, subst}
use Rattle.std.specs.Prelude.{is_some}
use Rattle.std.specs.ControlFlow.{MatchControlFlow, break_value}

module _ {B C : Type 0} (flow : ControlFlow B C) where
  pub goes_on : (value : C) (breaks : Bool) → flow ≡ Continue value → is_some (break_value flow) ≡ breaks → breaks ≡ false
  goes_on value breaks is told = sym told ∙ ap (λ (f : ControlFlow B C). is_some (break_value f)) is

  pub breaks_off : (value : B) (breaks : Bool) → flow ≡ Break value → is_some (break_value flow) ≡ breaks → breaks ≡ true
  breaks_off value breaks is told = sym told ∙ ap (λ (f : ControlFlow B C). is_some (break_value f)) is

  pub where_on : (value : C) (P : C → Type 0) (Q : B → Type 0) → flow ≡ Continue value → MatchControlFlow flow P Q → P value
  where_on value P Q is told = subst (λ (f : ControlFlow B C). MatchControlFlow f P Q) is told

  pub where_off : (value : B) (P : C → Type 0) (Q : B → Type 0) → flow ≡ Break value → MatchControlFlow flow P Q → Q value
  where_off value P Q is told = subst (λ (f : ControlFlow B C). MatchControlFlow f P Q) is told
