-- The plan of a playbook's first play.
use Rattle.std.proofs.Common.{◌≡◌, ◌<◌, ℕ, List, ◌∷◌, drop, drop-cons, get_or, length, ap, refl, sym, ◌∙◌}
use Rattle.domains.specs.FleetViews.{FleetView}
use Rattle.domains.specs.Patterns.{IsPatternFault}
use Rattle.domains.specs.declared.pattern_fault.PatternFault.{PatternFault}
use Rattle.batch_plan.specs.declared.answers.Answer.{Answer}
use Rattle.play_forecast.specs.PlayPlans.{IsPlanOf, parts_of_play}
use Rattle.play_forecast.proofs.PatternLemmas.{fault_here}
use Rattle.play_model.specs.declared.play.Play.{Play}
use Rattle.plan_command.specs.PlanTexts.{ArePlaysIn, IsFirstPlan, IsNoTarget, IsPlaybookPlan}

pub first_plan : (fleet : FleetView) (playbook : List ℕ) (plays : List Play) (play : Play) (answer : Answer) (held : List ℕ) → ArePlaysIn fleet playbook plays → 0 < length plays → play ≡ get_or plays 0 play
    → IsPlanOf fleet play answer held → IsPlaybookPlan fleet playbook answer held
first_plan fleet playbook plays play answer held says some is plan =
    let parts : plays ≡ play ∷ drop 1 plays = drop-cons plays 0 play some ∙ ap (λ (p : Play). p ∷ drop 1 plays) (sym is) in
    let first : IsFirstPlan fleet plays answer held = record { first = play; others = drop 1 plays; are = parts; known = says.known; plan = plan } in
    record { plays = plays; reads = says.reads; plan = first }

pub first_fault : (fleet : FleetView) (playbook : List ℕ) (plays : List Play) (play : Play) (fault : PatternFault) → ArePlaysIn fleet playbook plays → 0 < length plays → play ≡ get_or plays 0 play
    → IsPatternFault fleet (parts_of_play play) fault → IsNoTarget fleet playbook fault
first_fault fleet playbook plays play fault says some is refused =
    record { plays = plays; reads = says.reads; refused = fault_here fleet parts_of_play plays 0 play is some refl fault refused }
