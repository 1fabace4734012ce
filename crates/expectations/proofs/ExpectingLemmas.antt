-- What is written is the table or the plan of the texts.
use Rattle.std.proofs.Common.{◌≡◌, ℕ, ◌<◌, Option, None, Some, List, ◌∷◌, drop, drop-cons, get_or, length, sym, ap, refl, subst, ◌∙◌}
use Rattle.std.specs.Io.KnownBytes.{Appends, Keeps}
use Rattle.domains.specs.FleetViews.{FleetView}
use Rattle.domains.specs.Ids.{host_numbers}
use Rattle.group_tree.specs.declared.ids.HostId.{HostId}
use Rattle.recap.specs.PlanText.{plan_text}
use Rattle.plan_command.specs.Ends.{end_of}
use Rattle.plan_command.specs.declared.end.End.{End}
use Rattle.batch_plan.specs.declared.answers.Answer.{Answer}
use Rattle.play_model.specs.declared.play.Play.{Play}
use Rattle.play_forecast.specs.PlayPlans.{IsPlanOf}
use Rattle.plan_command.specs.PlanTexts.{ArePlaysIn, IsFirstPlan, IsFleetIn, IsPlanIn, IsUnread}
use Rattle.plan_command.specs.declared.fault.PlanFault.{PlanFault}
use Rattle.plan_command.specs.declared.fault.PlanFault.TheVariants.{Read, Fleet, Playbook, Pattern, Write}
use Rattle.expectations.specs.Expecting.{IsTold, PlansAs, RefusesPlan, RefusesTable}
use Rattle.expectations.specs.Facts.{Unmet, first_unmet, number_in_plan}
use Rattle.expectations.specs.Lists.{Expectation}
use Rattle.expectations.specs.Shown.{unexpected_shown}
use Rattle.expectations.specs.declared.unexpected.ExpectFault.{ExpectFault}
use Rattle.expectations.specs.declared.unexpected.ExpectFault.TheVariants.{Plan, Unexpected, Memory}

pub unread_table : (inventory : List ℕ) (expected : List Expectation) (old new : Option (List ℕ)) (fault : PlanFault) → Keeps old new → IsUnread inventory fault
    → RefusesTable inventory expected old new (Plan fault)
unread_table inventory expected old new (Read fault) keeps unread = (unread, keeps)
unread_table inventory expected old new (Fleet fault) keeps unread = (unread, keeps)
unread_table inventory expected old new (Playbook fault) keeps unread = absurd unread
unread_table inventory expected old new (Pattern fault) keeps unread = absurd unread
unread_table inventory expected old new (Write fault) keeps unread = absurd unread

pub is_plan_in : (inventory playbook : List ℕ) (fleet : FleetView) (plays : List Play) (play : Play) (answer : Answer) (held : List ℕ) → IsFleetIn inventory fleet → ArePlaysIn fleet playbook plays
    → 0 < length plays → play ≡ get_or plays 0 play → IsPlanOf fleet play answer held → IsPlanIn inventory playbook fleet answer held
is_plan_in inventory playbook fleet plays play answer held built says some is plan =
    let parts : plays ≡ play ∷ drop 1 plays = drop-cons plays 0 play some ∙ ap (λ (p : Play). p ∷ drop 1 plays) (sym is) in
    let first : IsFirstPlan fleet plays answer held = record { first = play; others = drop 1 plays; are = parts; known = says.known; plan = plan } in
    record { built = built; plan = record { plays = plays; reads = says.reads; plan = first } }

module _ (inventory playbook : List ℕ) (expected : List Expectation) (unmet : Option Unmet) (old new : Option (List ℕ)) (fleet : FleetView) (answer : Answer) (held written_held : List HostId) where
  -- the plan went out that both texts say, and this is what it doesn't meet
  pub plans_as : (told_held : List HostId) (end : End) → IsPlanIn inventory playbook fleet answer (host_numbers held) → written_held ≡ held → told_held ≡ held
      → Appends old new (plan_text fleet answer (host_numbers written_held)) → end ≡ end_of answer (host_numbers told_held) → first_unmet (number_in_plan answer) expected ≡ unmet
      → PlansAs inventory playbook expected unmet old new end
  plans_as told_held end plan is_written is_told written ends first = record {
    fleet = fleet;
    answer = answer;
    held = host_numbers held;
    plan = plan;
    written = subst (λ (hosts : List HostId). Appends old new (plan_text fleet answer (host_numbers hosts))) is_written written;
    first = first;
    ends = ends ∙ ap (λ (hosts : List HostId). end_of answer (host_numbers hosts)) is_told;
  }

-- the plan went out, and doesn't meet what the fault tells
pub misses_plan : (inventory playbook : List ℕ) (expected : List Expectation) (unmet : Option Unmet) (old new : Option (List ℕ)) (fleet : FleetView) (answer : Answer) (held written_held : List HostId)
    (fault : ExpectFault) → IsPlanIn inventory playbook fleet answer (host_numbers held) → written_held ≡ held → Appends old new (plan_text fleet answer (host_numbers written_held))
    → first_unmet (number_in_plan answer) expected ≡ unmet → IsTold unmet fault → RefusesPlan inventory playbook expected old new fault
misses_plan inventory playbook expected unmet old new fleet answer held written_held (Unexpected found) plan is_written written first told =
    let end = end_of answer (host_numbers held) in
    record {
      end = end;
      plans = plans_as inventory playbook expected (Some (unexpected_shown found)) old new fleet answer held written_held held end plan is_written refl written refl (first ∙ told);
    }
misses_plan inventory playbook expected unmet old new fleet answer held written_held (Plan fault) plan is_written written first told = absurd told
misses_plan inventory playbook expected unmet old new fleet answer held written_held Memory plan is_written written first told = absurd told
