-- Where commands lead: nowhere, on to a place, or back.
use Rattle.std.proofs.Common.{◌≡◌, ◌⊎◌, ℕ, zero, suc, Bool, true, false, cond, None, Some, Option, List, [], ◌∷◌, inl, inr, sym, refl, ap, ◌∙◌, subst}
use Rattle.play_forecast.specs.declared.end.End.{End}
use Rattle.group_tree.specs.declared.ids.HostId.{HostId}
use Rattle.rehearse.specs.Stacks.{IsAdvanced, RehearsalView, top}
use Rattle.rehearse.specs.Histories.{HistoryView, Place, back_at, led_on, refusing, undone}
use Rattle.rehearse.specs.GoingOn.{AreAdvances, UnlessOver, is_marked, marking}
use Rattle.rehearse.specs.Answers.{AdvancesTo, FinishesTo, GoesOnTo, LeadsTo, LooksUpTo, MarksTo, mark_refusal, over, refusal}
use Rattle.rehearse.specs.Replies.{Refused, Telling}
use Rattle.rehearse.specs.Commands.{Command, advance, command_in, fail, finish, help, hosts, next, nothing, plan, quit, show, undo, unknown}
use Rattle.rehearse.specs.Sessions.{Session}
use Rattle.rehearse.specs.HistoryLaws.{UndoneCommandIsAsBefore, UndoneSessionIsOpening}
use Rattle.rehearse.specs.Names.{group_named}

-- a command leaves the history as it is but for a refusal, or leads on to a place that has what the one before had, or takes the last such command back
pub data Leads (Keeps : RehearsalView → Type 0) (before : HistoryView) (command : Command) (after : HistoryView) : Type 0 where
  stays : after ≡ before → Leads Keeps before command after
  refuses : after ≡ refusing before → Leads Keeps before command after
  leads_on : (place : Place) → (Keeps before.place.rehearsal → Keeps place.rehearsal) → after ≡ led_on place before → Leads Keeps before command after
  goes_back : command ≡ undo → after ≡ undone before → Leads Keeps before command after

-- what advances keep of a rehearsal
module _ (Keeps : RehearsalView → Type 0) (keep : (named : List HostId) (old new : RehearsalView) → IsAdvanced named old new → Keeps old → Keeps new) where
  pub kept_by : (count : ℕ) (marked : List HostId) (old new : RehearsalView) → AreAdvances count marked old new → Keeps old → Keeps new
  kept_by zero marked old new are is = subst Keeps (sym are) is
  kept_by (suc count) marked old new are is = by_end (kept_by count marked) (top old).end are
    where
      by_end : ((between after : RehearsalView) → AreAdvances count marked between after → Keeps between → Keeps after) → (end : Option End) → UnlessOver (AreAdvances count marked) marked end old new → Keeps new
      by_end later (Some end) same = subst Keeps (sym same) is
      by_end later None goes = later goes.0 new goes.2 (keep _ old goes.0 goes.1 is)

  pub leads_somehow : (before : HistoryView) (command : Command) (after : HistoryView) → LeadsTo before command after → Leads Keeps before command after
  leads_somehow before nothing after to = stays to
  leads_somehow before (advance names) after to = by_refusal (refusal before.place.rehearsal names) to
    where
      by_refusal : (refused : Option Refused) → AdvancesTo before names refused after → Leads Keeps before (advance names) after
      by_refusal (Some why) is = refuses is
      by_refusal None is = leads_on _ (λ kept. keep _ before.place.rehearsal is.rehearsal is.advanced kept) is.leads
  leads_somehow before (next count) after to = by_refusal (over before.place.rehearsal) to
    where
      by_refusal : (refused : Option Refused) → GoesOnTo before count refused after → Leads Keeps before (next count) after
      by_refusal (Some why) is = refuses is
      by_refusal None is = leads_on _ (λ kept. kept_by count before.place.marked before.place.rehearsal is.rehearsal is.advances kept) is.leads
  leads_somehow before finish after to = by_refusal (over before.place.rehearsal) to
    where
      by_refusal : (refused : Option Refused) → FinishesTo before refused after → Leads Keeps before finish after
      by_refusal (Some why) is = refuses is
      by_refusal None is = leads_on _ (λ kept. kept_by is.advances.count before.place.marked before.place.rehearsal is.rehearsal is.advances.advances kept) is.leads
  leads_somehow before (fail name) after to = by_refusal (mark_refusal before.place.rehearsal name) to
    where
      by_mark : (host : HostId) (b : Bool) → after ≡ cond b before (marking host before) → Leads Keeps before (fail name) after
      by_mark host true is = stays is
      by_mark host false is = leads_on _ (λ kept. kept) is

      by_refusal : (refused : Option Refused) → MarksTo before name refused after → Leads Keeps before (fail name) after
      by_refusal (Some why) is = refuses is
      by_refusal None is = by_mark _ (is_marked before _) is
  leads_somehow before undo after to = goes_back refl to
  leads_somehow before plan after to = stays to
  leads_somehow before show after to = stays to
  leads_somehow before (hosts name) after to = by_group (group_named before.place.rehearsal.rules.fleet name) to
    where
      by_group : (group : Option ℕ) → LooksUpTo before group after → Leads Keeps before (hosts name) after
      by_group (Some group) is = stays is
      by_group None is = refuses is
  leads_somehow before help after to = stays to
  leads_somehow before quit after to = stays to
  leads_somehow before unknown after to = refuses to

abbrev Any : RehearsalView → Type 0
Any rehearsal = Unit {0}

abbrev LeadsAny : HistoryView → Command → HistoryView → Type 0
LeadsAny before command after = Leads Any before command after

leads_any : (before : HistoryView) (command : Command) (after : HistoryView) → LeadsTo before command after → LeadsAny before command after
leads_any before command after to = leads_somehow Any (λ named old new is any. tt) before command after to

pub undone_command_is_as_before : UndoneCommandIsAsBefore
undone_command_is_as_before before command after back to is = by_way (leads_any before command after to)
  where
    by_way : LeadsAny before command after → (after ≡ before) ⊎ (after ≡ refusing before) ⊎ (command ≡ undo) ⊎ (back ≡ before)
    by_way (stays same) = inl same
    by_way (refuses same) = inr (inl same)
    by_way (leads_on place kept leads) = inr (inr (inr (is ∙ ap undone leads)))
    by_way (goes_back undoes same) = inr (inr (inl undoes))

-- where it stood at first
abbrev first_of : Place → List Place → Place
first_of place [] = place
first_of place (before ∷ earlier) = first_of before earlier

abbrev first_place : HistoryView → Place
first_place history = first_of history.place history.earlier

back_same : (place : Place) (earlier : List Place) (refused : Bool)
    → first_place (back_at (let h : HistoryView = record { place = place; earlier = earlier; refused = refused } in h) earlier) ≡ first_of place earlier
back_same place [] refused = refl
back_same place (before ∷ earlier) refused = refl

same_first : (before : HistoryView) (command : Command) (after : HistoryView) → LeadsTo before command after → first_place after ≡ first_place before
same_first before command after to = by_way (leads_any before command after to)
  where
    by_way : LeadsAny before command after → first_place after ≡ first_place before
    by_way (stays same) = ap first_place same
    by_way (refuses same) = ap first_place same
    by_way (leads_on place kept leads) = ap first_place leads
    by_way (goes_back undoes same) = ap first_place same ∙ back_same before.place before.earlier before.refused

same_first_of_all : (tell : Telling) (before : HistoryView) (lines : List (List ℕ)) (text : List ℕ) (after : HistoryView) → Session tell before lines text after → first_place after ≡ first_place before
same_first_of_all tell before [] text after session = ap first_place session.1
same_first_of_all tell before (line ∷ lines) text after session =
    same_first_of_all tell session.0 lines session.1 after session.3 ∙ same_first before (command_in line) session.0 session.2

pub undone_session_is_opening : UndoneSessionIsOpening
undone_session_is_opening tell before lines text after none session back =
    sym (ap (first_of after.place) back) ∙ same_first_of_all tell before lines text after session ∙ ap (first_of before.place) none
