-- What the two readers say, as `plan` tells it.
use Rattle.std.proofs.Common.{ℕ, Option, List, refl}
use Rattle.std.specs.Io.KnownBytes.{Keeps}
use Rattle.bounded_io.specs.Sending.{SendsFirst}
use Rattle.domains.specs.FleetViews.{FleetView}
use Rattle.batch_plan.specs.declared.answers.Answer.{Answer}
use Rattle.recap.specs.PlanText.{plan_text}
use Rattle.plan_command.specs.Ends.{end_of}
use Rattle.plan_command.specs.declared.fault.PlanFault.{PlanFault}
use Rattle.plan_command.specs.declared.fault.PlanFault.TheVariants.{Read, Fleet, Playbook, Pattern, Write}
use Rattle.plan_command.specs.PlanTexts.{BreaksPlan, IsFleetIn, IsPlaybookFault, IsPlaybookPlan, IsTrueFault, IsUnread}

pub unread_is_true : (inventory playbook : List ℕ) (old new : Option (List ℕ)) (fault : PlanFault) → Keeps old new → IsUnread inventory fault → IsTrueFault inventory playbook old new fault
unread_is_true inventory playbook old new (Read fault) keeps unread = (unread, keeps)
unread_is_true inventory playbook old new (Fleet fault) keeps unread = (unread, keeps)
unread_is_true inventory playbook old new (Playbook fault) keeps unread = absurd unread
unread_is_true inventory playbook old new (Pattern fault) keeps unread = absurd unread
unread_is_true inventory playbook old new (Write fault) keeps unread = absurd unread

pub refused_is_true : (inventory playbook : List ℕ) (old new : Option (List ℕ)) (fleet : FleetView) → IsFleetIn inventory fleet → (fault : PlanFault) → Keeps old new → IsPlaybookFault fleet playbook fault → IsTrueFault inventory playbook old new fault
refused_is_true inventory playbook old new fleet built (Playbook fault) keeps refused =
    (record { fleet = fleet; built = built; refused = refused }, keeps)
refused_is_true inventory playbook old new fleet built (Pattern fault) keeps refused =
    (record { fleet = fleet; built = built; refused = refused }, keeps)
refused_is_true inventory playbook old new fleet built (Read fault) keeps refused = absurd refused
refused_is_true inventory playbook old new fleet built (Fleet fault) keeps refused = absurd refused
refused_is_true inventory playbook old new fleet built (Write fault) keeps refused = absurd refused

pub breaks_plan : (inventory playbook : List ℕ) (old new : Option (List ℕ)) (fleet : FleetView) (answer : Answer) (held : List ℕ) (count : ℕ) → IsFleetIn inventory fleet
    → IsPlaybookPlan fleet playbook answer held → SendsFirst old new (plan_text fleet answer held) count → BreaksPlan inventory playbook old new count
breaks_plan inventory playbook old new fleet answer held count built plan written = record {
  text = plan_text fleet answer held;
  end = end_of answer held;
  is = record { fleet = fleet; answer = answer; held = held; plan = record { built = built; plan = plan }; text_is = refl; ends = refl };
  written = written;
}
