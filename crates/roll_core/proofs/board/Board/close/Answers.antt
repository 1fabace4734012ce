use Rattle.std.proofs.Common.{◌≡◌, ℕ, Option, List, [], ◌∷◌, ◌∙◌, ap, sym, subst, refl}
use Rattle.fleet_states.specs.declared.status.Status.{Status}
use Rattle.fleet_states.specs.Batches.{statuses_after}
use Rattle.event_log.specs.Columns.{Columns, Tells, fails_by}
use Rattle.event_log.specs.Events.{closed}
use Rattle.event_log.specs.States.{ended}
use Rattle.roll_core.specs.Views.{KernelView, roll_of, state_of}
use Rattle.roll_core.specs.Boards.{BoardView}
use Rattle.roll_core.specs.Inside.{IsKept}
use Rattle.domains.specs.Ids.{host_numbers}
use Rattle.roll_core.specs.Tellings.{HasHeard, Hears, IsTold, closing, halt_in, told_at}
use Rattle.roll_core.proofs.GrowLemmas.{kept_quiet}
use Rattle.roll_core.proofs.HearLemmas.{told_more}
use Rattle.roll_core.proofs.board.Board.close.Goals as goal

pub invariant_of-self : goal.invariant_of-self
invariant_of-self g c =
    let old = c.self.inside in
    let may = g.R.Runner.may old.runner.now in
    let kept = kept_quiet may old.kernel old.tallies old.reports.total g.L.Ledger.parts old.rest.parts old.rest.amount old.joined c.self.invariant.0 closed tt refl in
    let hears = g.W.Observer.hears in
    let now = c.tell.new.watch in
    let batch = c.batch.result.now in
    let same : closing (host_numbers batch) c.statuses.result.now c.halt_of.result ∷ [] ≡ told_at (roll_of old.kernel) (state_of old.kernel) closed =
    ap (λ (b : List ℕ). closing b c.statuses.result.now c.halt_of.result ∷ []) c.batch.ensures
    ∙ ap (λ (s : List Status). closing (state_of old.kernel).batch s c.halt_of.result ∷ []) c.statuses.ensures.value
    ∙ ap (λ (h : Option ℕ). closing (state_of old.kernel).batch (state_of old.kernel).statuses h ∷ []) (c.halt_of.ensures ∙ ap halt_in c.stage.ensures) in
    let heard : HasHeard (Hears hears old.kernel) old.watch now (closing (host_numbers batch) c.statuses.result.now c.halt_of.result ∷ []) = (now, (c.tell.ensures, refl)) in
    let told = told_more hears old.kernel old.watch now c.self.invariant.1 closed (subst (HasHeard (Hears hears old.kernel) old.watch now) same heard) in
    let Now : KernelView → Type 0 = λ k. IsKept may k old.tallies old.reports.total g.L.Ledger.parts old.rest.parts old.rest.amount old.joined × IsTold hears k now in
    subst Now (sym c.close.ensures.event) (kept, told)

pub returns-clause-statuses : goal.returns-clause-statuses
returns-clause-statuses g c =
    let left : List Status = (state_of c.close.new.self).statuses in
    let Ends : BoardView g.row.R.Denot → Type 0 = λ v. (columns : Columns) (halt : Option ℕ) → Tells columns (roll_of v.kernel) v.kernel.log → (state_of v.kernel).phase ≡ ended halt → left ≡ statuses_after halt (fails_by (roll_of v.kernel) columns) (state_of v.kernel).batch (state_of v.kernel).opening in
    subst Ends c.self.view_is c.close.ensures.statuses
