-- What is answered to a command that asks for an advance.
use Rattle.std.proofs.Common.{◌≡◌, ℕ, Option, None, Some, List, [], ◌∷◌, ◌++◌, drop, length, refl, sym, ap, ◌∙◌, subst}
use Rattle.std.specs.Prelude.{option_map}
use Rattle.std.specs.Option.{option_or}
use Rattle.play_forecast.specs.declared.end.End.{End}
use Rattle.rehearse.proofs.GoingOnLemmas.{outside_alike}
use Rattle.group_tree.specs.Names.{Name}
use Rattle.domains.specs.FleetViews.{FleetView}
use Rattle.play_forecast.specs.Courses.{next_batch}
use Rattle.rehearse.specs.declared.stage.Stage.{Stage}
use Rattle.rehearse.specs.Stacks.{IsAdvanced, RehearsalView, batches_to, first_outside, top, top_of}
use Rattle.group_tree.specs.declared.ids.HostId.{HostId}
use Rattle.rehearse.specs.Histories.{HistoryView, refusing}
use Rattle.rehearse.specs.GoingOn.{HasAdvanced}
use Rattle.rehearse.specs.Replies.{Refused, Reply, no_such_name, not_in_batch}
use Rattle.rehearse.specs.Replies as replies
use Rattle.rehearse.specs.Answers.{AdvancesTo, one_batch, over, refusal, unless}
use Rattle.rehearse.specs.Names.{first_nobody, hosts_named}
use Rattle.rehearse.specs.AnswersInside.{IsSettled, why_of}
use Rattle.rehearse.specs.declared.refusal.Refusal.{Refusal}

behind_pushed : (first : Stage) (above : List Stage) (stage : Stage) → drop (length above) (batches_to first (above ++ stage ∷ [])) ≡ next_batch (top_of first above).boundary.answer ∷ []
behind_pushed first [] stage = refl
behind_pushed first (one ∷ above) stage = behind_pushed one above stage

-- the batch by which it went on is the one that came next
pub went_on_by_next : (named : List HostId) (old new : RehearsalView) → IsAdvanced named old new
    → drop (length old.above) (batches_to new.first new.above) ≡ next_batch (top old).boundary.answer ∷ []
went_on_by_next named old new is =
    ap (λ (r : RehearsalView). drop (length old.above) (batches_to r.first r.above)) is.grown ∙ behind_pushed old.first old.above is.stage

-- a session that went on was not refused
pub went_on : (before after : HistoryView) (names : List Name) (hosts : List HostId) → first_nobody before.place.rehearsal.rules.fleet names ≡ None
    → hosts ≡ hosts_named before.place.rehearsal.rules.fleet names → HasAdvanced hosts before after → IsSettled before names after None
went_on before after names hosts nobody hosts_are is =
    let r : RehearsalView = before.place.rehearsal in
    let fleet : FleetView = r.rules.fleet in
    let batch : List ℕ = next_batch (top r).boundary.answer in
    let inside : first_outside batch (hosts_named fleet names) ≡ None =
    ap (first_outside batch) (sym hosts_are) ∙ sym (outside_alike r hosts before.place.marked) ∙ ap (first_outside batch) (sym is.advanced.named_are) ∙ is.advanced.behind.in_batch in
    let none : refusal r names ≡ None =
    ap (λ (o : Option Name). option_or (option_map (λ (name : Name). no_such_name name) o) (option_or (over r) (option_map (λ (host : HostId). not_in_batch host) (first_outside batch (hosts_named fleet names))))) nobody
    ∙ ap (λ (o : Option End). option_or (option_map (λ (e : End). replies.over) o) (option_map (λ (host : HostId). not_in_batch host) (first_outside batch (hosts_named fleet names)))) is.advanced.behind.went_on
    ∙ ap (option_map (λ (host : HostId). not_in_batch host)) inside in
    (none, subst (λ (l : List HostId). HasAdvanced l before after) hosts_are is)

module _ (before between : HistoryView) (names : List Name) (refused : Option Refusal) (settled : IsSettled before names between refused) where
  -- what is said of a session that went on is what is answered
  pub advanced_reply : (from : ℕ) → from ≡ length before.place.rehearsal.above → refused ≡ None
      → replies.advanced (drop from (batches_to between.place.rehearsal.first between.place.rehearsal.above)) ≡ unless (refusal before.place.rehearsal names) (one_batch before.place.rehearsal)
  advanced_reply from from_is none =
      let went = subst (IsSettled before names between) none settled in
      let next = went_on_by_next _ before.place.rehearsal went.1.rehearsal went.1.advanced in
      let here : List (List ℕ) = drop from (batches_to between.place.rehearsal.first between.place.rehearsal.above) in
      let same : here ≡ next_batch (top before.place.rehearsal).boundary.answer ∷ [] =
      ap (λ (n : ℕ). drop n (batches_to between.place.rehearsal.first between.place.rehearsal.above)) from_is
      ∙ ap (λ (h : HistoryView). drop (length before.place.rehearsal.above) (batches_to h.place.rehearsal.first h.place.rehearsal.above)) went.1.leads ∙ next in
      ap (λ (l : List (List ℕ)). replies.advanced l) same ∙ sym (ap (λ (r : Option Refused). unless r (one_batch before.place.rehearsal)) went.0)

  pub advanced_leads : refused ≡ None → AdvancesTo before names (refusal before.place.rehearsal names) between
  advanced_leads none =
      let went = subst (IsSettled before names between) none settled in
      subst (λ (r : Option Refused). AdvancesTo before names r between) (sym went.0) went.1

  module _ (why : Refusal) (is : refused ≡ Some why) where
    stands : (refusal before.place.rehearsal names ≡ Some (why_of why)) × (between ≡ before)
    stands = subst (IsSettled before names between) is settled

    pub refused_reply : (reply : Reply) → reply ≡ replies.refused (why_of why) → reply ≡ unless (refusal before.place.rehearsal names) (one_batch before.place.rehearsal)
    refused_reply reply said = said ∙ sym (ap (λ (r : Option Refused). unless r (one_batch before.place.rehearsal)) stands.0)

    pub refused_leads : (after : HistoryView) → after ≡ refusing between → AdvancesTo before names (refusal before.place.rehearsal names) after
    refused_leads after to = subst (λ (r : Option Refused). AdvancesTo before names r after) (sym stands.0) (to ∙ ap refusing stands.1)
