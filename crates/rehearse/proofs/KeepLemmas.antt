-- A session leads from a rehearsal to a rehearsal of the same play.
use Rattle.std.proofs.Common.{◌≡◌, ℕ, ◌+◌, Bool, List, [], ◌∷◌, length, sym, ap, ◌∙◌, subst, arith}
use Rattle.domains.specs.FleetViews.{FleetView}
use Rattle.fleet_states.specs.declared.status.Status.{Status}
use Rattle.play_model.specs.declared.play.Play.{Play}
use Rattle.group_tree.specs.declared.ids.HostId.{HostId}
use Rattle.rehearse.specs.Plays.{IsRehearsalOf}
use Rattle.rehearse.specs.Stacks.{IsAdvanced, IsBehind, RehearsalView, top}
use Rattle.rehearse.specs.Histories.{HistoryView, Place, back_at, led_on, refusing, undone}
use Rattle.rehearse.proofs.StackLemmas.{above-push}
use Rattle.rehearse.proofs.LeadLemmas.{Leads, goes_back, leads_on, leads_somehow, refuses, stays}
use Rattle.rehearse.specs.Answers.{LeadsTo}
use Rattle.rehearse.specs.Replies.{Telling}
use Rattle.rehearse.specs.Commands.{Command, command_in}
use Rattle.rehearse.specs.Laws.{SessionsRehearse}
use Rattle.rehearse.specs.Sessions.{Session}

module _ (fleet : FleetView) (play : Play) (statuses : List Status) where
  abbrev Is : RehearsalView → Type 0
  Is rehearsal = IsRehearsalOf fleet play statuses rehearsal

  is_advanced : (named : List HostId) (old new : RehearsalView) → IsAdvanced named old new → Is old → Is new
  is_advanced named old new advanced is =
      subst Is (sym advanced.grown) (record {
        is_rehearsal = record {
          opens = is.is_rehearsal.opens;
          stands = above-push old.rules 0 old.first old.above advanced.stage is.is_rehearsal.stands
              (subst (λ (n : ℕ). IsBehind old.rules n (top old) advanced.stage) (omega arith) advanced.behind);
        };
        rules = is.rules;
        opening = is.opening;
      })

  -- wherever it stands and stood there is a rehearsal of the play
  abbrev AreAt : List Place → Type 0
  AreAt [] = Unit {0}
  AreAt (place ∷ places) = Is place.rehearsal × AreAt places

  abbrev Are : HistoryView → Type 0
  Are history = Is history.place.rehearsal × AreAt history.earlier

  are_back : (place : Place) (earlier : List Place) (refused : Bool) → Is place.rehearsal × AreAt earlier
      → Are (back_at (let h : HistoryView = record { place = place; earlier = earlier; refused = refused } in h) earlier)
  are_back place [] refused are = are
  are_back place (before ∷ earlier) refused are = are.1

  leads : (before : HistoryView) (command : Command) (after : HistoryView) → LeadsTo before command after → Are before → Are after
  leads before command after to are = by_way (leads_somehow Is is_advanced before command after to)
    where
      by_way : Leads Is before command after → Are after
      by_way (stays same) = subst Are (sym same) are
      by_way (refuses same) = subst Are (sym same) are
      by_way (leads_on place kept to_place) = subst Are (sym to_place) (kept are.0, are)
      by_way (goes_back undoes same) = subst Are (sym same) (are_back before.place before.earlier before.refused are)

  all_lead : (tell : Telling) (before : HistoryView) (lines : List (List ℕ)) (text : List ℕ) (after : HistoryView) → Session tell before lines text after → Are before → Are after
  all_lead tell before [] text after session are = subst Are (sym session.1) are
  all_lead tell before (line ∷ lines) text after session are =
      all_lead tell session.0 lines session.1 after session.3 (leads before (command_in line) session.0 session.2 are)

pub sessions_rehearse : SessionsRehearse
sessions_rehearse tell inventory playbook before lines text after opening session =
    (all_lead opening.fleet opening.play _ tell _ lines text after session (opening.opening.of, tt)).0
