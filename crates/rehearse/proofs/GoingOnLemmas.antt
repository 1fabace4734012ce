-- Going on by several batches.
use Rattle.std.proofs.Common.{◌≡◌, ℕ, zero, suc, ◌+◌, ◌-◌, ◌<◌, ◌≤◌, Bool, true, false, cond, Option, Some, None, List, [], ◌∷◌, ◌++◌, filter, find, not, length, take, get_or, refl, sym, ap, ◌∙◌, subst, arith, append_assoc, append-nil, length-append}
use Rattle.std.specs.Prelude.{is_some}
use Rattle.std.specs.Option.{option_or}
use Rattle.std.proofs.Math.Seq.{take-append_seam, take-length}
use Rattle.std.proofs.lemmas.List.Folds.{find-append}
use Rattle.group_tree.specs.declared.ids.HostId.{HostId}
use Rattle.fleet_index.specs.NumberLists.{has_number, list_at}
use Rattle.fleet_states.specs.declared.status.Status.{Status}
use Rattle.play_forecast.specs.declared.end.End.{End}
use Rattle.play_forecast.specs.Courses.{next_batch}
use Rattle.rehearse.specs.declared.stage.Stage.{Stage}
use Rattle.rehearse.specs.declared.advance_fault.AdvanceFault.{AdvanceFault}
use Rattle.rehearse.specs.declared.advance_fault.AdvanceFault.TheVariants.{Over, NotInBatch, Memory}
use Rattle.rehearse.specs.Refusals.{IsRefused}
use Rattle.rehearse.specs.Stacks.{IsAdvanced, RehearsalView, batches_to, cut_to, first_outside, pushed, top}
use Rattle.rehearse.specs.GoingOn.{AreAdvances, UnlessOver, marked_next}

-- the batches by which a rehearsal went on
pub many_batches : (below : Stage) (above : List Stage) → length (batches_to below above) ≡ length above
many_batches below [] = refl
many_batches below (stage ∷ above) = ap suc (many_batches stage above)

pub first_batch_to : (below : Stage) (above : List Stage) → 0 < length above → next_batch below.boundary.answer ≡ list_at (batches_to below above) 0
first_batch_to below [] some = absurd (omega (arith, some))
first_batch_to below (stage ∷ above) some = refl

pub later_batch_to : (below : Stage) (above : List Stage) (place : ℕ) (default : Stage) → suc place < length above
    → next_batch (get_or above place default).boundary.answer ≡ list_at (batches_to below above) (suc place)
later_batch_to below [] place default within = absurd (omega (arith, within))
later_batch_to below (stage ∷ []) place default within = absurd (omega (arith, within))
later_batch_to below (stage ∷ next ∷ above) zero default within = refl
later_batch_to below (stage ∷ next ∷ above) (suc place) default within = later_batch_to stage (next ∷ above) place default (omega (arith, within))

-- a rehearsal that went on
pub record IsGrown (old new : RehearsalView) : Type 0 where
  pub more : List Stage
  pub is : new ≡ record old { above = old.above ++ more }

grown_none : (old new : RehearsalView) → new ≡ old → IsGrown old new
grown_none old new same = record { more = []; is = same ∙ sym (ap (λ (l : List Stage). record old { above = l }) (append-nil old.above)) }

grown_one : (old between new : RehearsalView) (stage : Stage) → between ≡ pushed stage old → IsGrown between new → IsGrown old new
grown_one old between new stage is later = record {
  more = stage ∷ later.more;
  is = later.is ∙ ap (λ (r : RehearsalView). record r { above = r.above ++ later.more }) is
      ∙ ap (λ (l : List Stage). record old { above = l }) (append_assoc old.above (stage ∷ []) later.more);
}

pub advances_grow : (count : ℕ) (marked : List HostId) (old new : RehearsalView) → AreAdvances count marked old new → IsGrown old new
advances_grow zero marked old new are = grown_none old new are
advances_grow (suc count) marked old new are = by_end (advances_grow count marked) (top old).end are
  where
    by_end : ((between after : RehearsalView) → AreAdvances count marked between after → IsGrown between after) → (end : Option End) → UnlessOver (AreAdvances count marked) marked end old new → IsGrown old new
    by_end later (Some end) same = grown_none old new same
    by_end later None goes = grown_one old goes.0 new goes.1.stage goes.1.grown (later goes.0 new goes.2)

pub advanced_grows : (named : List HostId) (old new : RehearsalView) → IsAdvanced named old new → IsGrown old new
advanced_grows named old new is = grown_one old new new is.stage is.grown (grown_none new new refl)

-- it goes back to where it stood
pub cut_grown : (old new : RehearsalView) → IsGrown old new → cut_to (length old.above) new ≡ old
cut_grown old new grown =
    ap (λ (r : RehearsalView). cut_to (length old.above) r) grown.is ∙ ap (λ (l : List Stage). record old { above = l }) (take-append_seam old.above grown.more)

pub cut_same : (old : RehearsalView) → cut_to (length old.above) old ≡ old
cut_same old = ap (λ (l : List Stage). record old { above = l }) (take-length old.above)

-- what a loop that goes on batch by batch knows, with so many left to go
pub record IsGoingOn (count : ℕ) (marked : List HostId) (old : RehearsalView) (left : ℕ) (now : RehearsalView) : Type 0 where
  pub leads : (new : RehearsalView) → AreAdvances left marked now new → AreAdvances count marked old new
  pub grown : IsGrown old now
  pub many : length now.above + left ≡ length old.above + count

pub begins_going : (count : ℕ) (marked : List HostId) (old : RehearsalView) → IsGoingOn count marked old count old
begins_going count marked old = record { leads = λ new are. are; grown = grown_none old old refl; many = refl }

grown_both : (old now new : RehearsalView) → IsGrown old now → IsGrown now new → IsGrown old new
grown_both old now new one two = record {
  more = one.more ++ two.more;
  is = two.is ∙ ap (λ (r : RehearsalView). record r { above = r.above ++ two.more }) one.is ∙ ap (λ (l : List Stage). record old { above = l }) (append_assoc old.above one.more two.more);
}

pub goes_on_more : (count : ℕ) (marked : List HostId) (old : RehearsalView) (left : ℕ) (now new : RehearsalView) → IsGoingOn count marked old (suc left) now → (top now).end ≡ None
    → IsAdvanced (marked_next now marked) now new → IsGoingOn count marked old left new
goes_on_more count marked old left now new going none advanced = record {
  leads = λ final are. going.leads final (subst (λ (e : Option End). UnlessOver (AreAdvances left marked) marked e now final) (sym none) (new, advanced, are));
  grown = grown_both old now new going.grown (advanced_grows (marked_next now marked) now new advanced);
  many = omega (arith, going.many, ap (λ (r : RehearsalView). length r.above) advanced.grown, length-append now.above (advanced.stage ∷ []));
}

stays_over : (left : ℕ) (marked : List HostId) (now : RehearsalView) → is_some (top now).end ≡ true → AreAdvances left marked now now
stays_over zero marked now over = refl
stays_over (suc left) marked now over = by_end (top now).end over
  where
    by_end : (end : Option End) → is_some end ≡ true → UnlessOver (AreAdvances left marked) marked end now now
    by_end (Some end) some = refl
    by_end None some = absurd (cc)

pub over_early : (count : ℕ) (marked : List HostId) (old : RehearsalView) (left : ℕ) (now : RehearsalView) → IsGoingOn count marked old left now → is_some (top now).end ≡ true
    → AreAdvances count marked old now
over_early count marked old left now going over = going.leads now (stays_over left marked now over)

-- of those that pass none is outside
none_outside : (test : HostId → Bool) (hosts : List HostId) → find (λ host. not (test host)) (filter test hosts) ≡ None
none_outside test [] = refl
none_outside test (host ∷ hosts) = by_case (none_outside test hosts) (test host) refl
  where
    by_case : find (λ h. not (test h)) (filter test hosts) ≡ None → (b : Bool) → test host ≡ b → find (λ h. not (test h)) (cond b (host ∷ filter test hosts) (filter test hosts)) ≡ None
    by_case later true e = ap (λ b. cond (not b) (Some host) (find (λ h. not (test h)) (filter test hosts))) e ∙ later
    by_case later false e = later

or_none : (found : Option HostId) → option_or found None ≡ found
or_none (Some host) = refl
or_none None = refl

-- marked hosts of the batch are in it
pub outside_alike : (rehearsal : RehearsalView) (named marked : List HostId)
    → first_outside (next_batch (top rehearsal).boundary.answer) (named ++ marked_next rehearsal marked) ≡ first_outside (next_batch (top rehearsal).boundary.answer) named
outside_alike rehearsal named marked =
    let batch : List ℕ = next_batch (top rehearsal).boundary.answer in
    find-append (λ (host : HostId). not (has_number host.index batch)) named (marked_next rehearsal marked)
    ∙ ap (λ (o : Option HostId). option_or (first_outside batch named) o) (none_outside (λ (host : HostId). has_number host.index batch) marked)
    ∙ or_none (first_outside batch named)

-- so they refuse nothing
pub refused_alike : (rehearsal : RehearsalView) (named marked : List HostId) (fault : AdvanceFault) → IsRefused rehearsal (named ++ marked_next rehearsal marked) fault → IsRefused rehearsal named fault
refused_alike rehearsal named marked (Over end) is = is
refused_alike rehearsal named marked (NotInBatch host) is = (is.0, sym (outside_alike rehearsal named marked) ∙ is.1)
refused_alike rehearsal named marked Memory is = tt
