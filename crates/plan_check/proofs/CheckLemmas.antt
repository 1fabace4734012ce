-- What goes out is what is told of the plan, and what refuses it is true.
use Rattle.std.proofs.Common.{◌≡◌, ℕ, ◌<◌, Option, None, List, ◌∷◌, drop, drop-cons, get_or, length, sym, ap, ◌∙◌}
use Rattle.std.specs.Io.KnownBytes.{Keeps}
use Rattle.domains.specs.FleetViews.{FleetView}
use Rattle.play_model.specs.declared.play.Play.{Play}
use Rattle.plan_command.specs.PlanTexts.{ArePlaysIn, IsFirstPlan, IsFleetIn, IsPlaybookFault, IsUnread}
use Rattle.plan_command.specs.declared.fault.PlanFault.{PlanFault}
use Rattle.plan_command.specs.declared.fault.PlanFault.TheVariants.{Read, Fleet, Playbook, Pattern, Write}
use Rattle.plan_command.proofs.TextLemmas.{refused_is_true}
use Rattle.plan_check.specs.CheckTexts.{IsTrueFault, IsVerdictIn}
use Rattle.plan_check.specs.Listings.{bad_line}
use Rattle.plan_check.specs.Openings.{IsVerdictOn}
use Rattle.plan_check.specs.Shown.{shown}
use Rattle.plan_check.specs.declared.fault.CheckFault.TheVariants.{Plan}
use Rattle.plan_check.specs.declared.verdict.Verdict.{Verdict}

pub unread_check : (inventory playbook plan : List ℕ) (old new : Option (List ℕ)) (fault : PlanFault) → Keeps old new → IsUnread inventory fault
    → IsTrueFault inventory playbook plan old new (Plan fault)
unread_check inventory playbook plan old new (Read fault) keeps unread = (unread, keeps)
unread_check inventory playbook plan old new (Fleet fault) keeps unread = (unread, keeps)
unread_check inventory playbook plan old new (Playbook fault) keeps unread = absurd unread
unread_check inventory playbook plan old new (Pattern fault) keeps unread = absurd unread
unread_check inventory playbook plan old new (Write fault) keeps unread = absurd unread

pub refused_check : (inventory playbook plan : List ℕ) (old new : Option (List ℕ)) (fleet : FleetView) → IsFleetIn inventory fleet → (fault : PlanFault) → Keeps old new
    → IsPlaybookFault fleet playbook fault → IsTrueFault inventory playbook plan old new (Plan fault)
refused_check inventory playbook plan old new fleet built (Playbook fault) keeps refused = refused_is_true inventory playbook old new fleet built (Playbook fault) keeps refused
refused_check inventory playbook plan old new fleet built (Pattern fault) keeps refused = refused_is_true inventory playbook old new fleet built (Pattern fault) keeps refused
refused_check inventory playbook plan old new fleet built (Read fault) keeps refused = absurd refused
refused_check inventory playbook plan old new fleet built (Fleet fault) keeps refused = absurd refused
refused_check inventory playbook plan old new fleet built (Write fault) keeps refused = absurd refused

pub is_verdict : (inventory playbook text : List ℕ) (fleet : FleetView) (plays : List Play) (play : Play) (verdict : Verdict) → IsFleetIn inventory fleet → ArePlaysIn fleet playbook plays
    → 0 < length plays → play ≡ get_or plays 0 play → bad_line text ≡ None → IsVerdictOn fleet play text verdict → IsVerdictIn inventory playbook text fleet (shown verdict)
is_verdict inventory playbook text fleet plays play verdict built says some is lines on =
    let parts : plays ≡ play ∷ drop 1 plays = drop-cons plays 0 play some ∙ ap (λ (p : Play). p ∷ drop 1 plays) (sym is) in
    let first : IsFirstPlan fleet plays on.answer on.held = record { first = play; others = drop 1 plays; are = parts; known = says.known; plan = on.plan } in
    record {
      answer = on.answer;
      held = on.held;
      planned = record { built = built; plan = record { plays = plays; reads = says.reads; plan = first } };
      lines = lines;
      verdict_is = on.is;
    }
