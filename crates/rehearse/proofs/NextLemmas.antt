-- What is answered to a command that goes on by several batches.
use Rattle.std.proofs.Common.{◌≡◌, ℕ, ◌≤◌, Bool, true, false, Option, None, Some, Result, Ok, Err, length, refl, sym, ap, ◌∙◌, arith}
use Rattle.std.specs.Prelude.{OnOk, is_some, option_map}
use Rattle.play_forecast.specs.declared.end.End.{End}
use Rattle.rehearse.specs.Stacks.{RehearsalView, top}
use Rattle.rehearse.specs.Histories.{HistoryView}
use Rattle.rehearse.specs.Replies.{Refused}
use Rattle.rehearse.specs.Replies as replies
use Rattle.rehearse.specs.Answers.{FinishesTo, GoesOnTo, over}

over_at : (end : Option End) → is_some end ≡ true → option_map (λ (e : End). replies.over) end ≡ Some replies.over
over_at (Some end) some = refl
over_at None some = absurd (cc)

not_over_at : (end : Option End) → is_some end ≡ false → option_map (λ (e : End). replies.over) end ≡ None
not_over_at (Some end) none = absurd (cc)
not_over_at None none = refl

module _ (rehearsal : RehearsalView) (told : Option End) (some : Bool) (same : told ≡ (top rehearsal).end) (is : some ≡ is_some told) where
  pub told_over : some ≡ true → over rehearsal ≡ Some replies.over
  told_over holds = ap (option_map (λ (e : End). replies.over)) (sym same) ∙ over_at told (sym is ∙ holds)

  pub told_on : some ≡ false → over rehearsal ≡ None
  told_on fails = ap (option_map (λ (e : End). replies.over)) (sym same) ∙ not_over_at told (sym is ∙ fails)

-- who goes on by enough batches comes to the end
pub finishes : (before after : HistoryView) (count : ℕ) (refused : Option Refused) → GoesOnTo before count refused after → is_some (top after.place.rehearsal).end ≡ true → FinishesTo before refused after
finishes before after count (Some why) to ended = to
finishes before after count None to ended = record {
  rehearsal = to.rehearsal;
  advances = record {
    count = count;
    advances = to.advances;
    ended = sym (ap (λ (h : HistoryView). is_some (top h.place.rehearsal).end) to.leads) ∙ ended;
  };
  leads = to.leads;
}

-- the same where memory was not wanting
pub finishes_where : {X E : Type 0} (result : Result X E) (before after : HistoryView) (count : ℕ) (refused : Option Refused) → count ≡ length before.place.rehearsal.rules.fleet.hosts
    → OnOk result (GoesOnTo before count refused after) → OnOk result (length before.place.rehearsal.rules.fleet.hosts ≤ count → is_some (top after.place.rehearsal).end ≡ true)
    → OnOk result (FinishesTo before refused after)
finishes_where (Ok done) before after count refused all to ended = finishes before after count refused to (ended (omega (arith, all)))
finishes_where (Err fault) before after count refused all to ended = tt
