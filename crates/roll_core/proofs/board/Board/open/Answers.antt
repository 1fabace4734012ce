use Rattle.std.proofs.Common.{[], ◌∷◌, ◌∙◌, ap, sym, subst, refl}
use Rattle.domains.specs.Ids.{host_numbers}
use Rattle.event_log.specs.Events.{opened}
use Rattle.roll_core.specs.Views.{KernelView, state_of}
use Rattle.roll_core.specs.Inside.{IsKept}
use Rattle.roll_core.specs.Tellings.{HasHeard, Hears, IsTold, opening}
use Rattle.roll_core.proofs.GrowLemmas.{kept_quiet}
use Rattle.roll_core.proofs.HearLemmas.{opening_is, told_more}
use Rattle.roll_core.proofs.board.Board.open.Goals as goal

pub invariant_of-self : goal.invariant_of-self
invariant_of-self g c =
    let old = c.self.inside in
    let may = g.R.Runner.may old.runner.now in
    let hears = g.W.Observer.hears in
    let now = c.tell.new.watch in
    let batch = host_numbers c.args.hosts.now in
    let statuses = c.statuses.result.now in
    let grown = c.in-Ok.ensures.ok in
    let kept = kept_quiet may old.kernel old.tallies old.reports.total g.L.Ledger.parts old.rest.parts old.rest.amount old.joined c.self.invariant.0 (opened batch) tt refl in
    let heard : HasHeard (Hears hears c.open.new.self) old.watch now (opening batch statuses ∷ []) = (now, (c.tell.ensures, refl)) in
    let of_old = subst (λ (k : KernelView). HasHeard (Hears hears k) old.watch now (opening batch statuses ∷ [])) grown heard in
    let are = c.statuses.ensures.value ∙ ap (λ (k : KernelView). (state_of k).statuses) grown in
    let as_told = subst (HasHeard (Hears hears old.kernel) old.watch now) (opening_is old.kernel batch statuses are) of_old in
    let told = told_more hears old.kernel old.watch now c.self.invariant.1 (opened batch) as_told in
    let Now : KernelView → Type 0 = λ k. IsKept may k old.tallies old.reports.total g.L.Ledger.parts old.rest.parts old.rest.amount old.joined × IsTold hears k now in
    subst Now (sym grown) (kept, told)
