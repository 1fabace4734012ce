use Rattle.std.proofs.Common.{[], ◌∷◌, sym, subst, refl}
use Rattle.domains.specs.Ids.{host_numbers}
use Rattle.event_log.specs.Events.{set_aside}
use Rattle.roll_core.specs.Views.{KernelView}
use Rattle.roll_core.specs.Inside.{IsKept}
use Rattle.roll_core.specs.Tellings.{HasHeard, Hears, IsTold, aside}
use Rattle.roll_core.proofs.GrowLemmas.{kept_quiet}
use Rattle.roll_core.proofs.HearLemmas.{told_more}
use Rattle.roll_core.proofs.board.Board.hold.Goals as goal

pub invariant_of-self : goal.invariant_of-self
invariant_of-self g c =
    let old = c.self.inside in
    let may = g.R.Runner.may old.runner.now in
    let hears = g.W.Observer.hears in
    let now = c.tell.new.watch in
    let hosts = host_numbers c.args.hosts.now in
    let grown = c.in-Ok.ensures.ok in
    let kept = kept_quiet may old.kernel old.tallies old.reports.total g.L.Ledger.parts old.rest.parts old.rest.amount old.joined c.self.invariant.0 (set_aside hosts) tt refl in
    let heard : HasHeard (Hears hears c.hold.new.self) old.watch now (aside hosts ∷ []) = (now, (c.tell.ensures, refl)) in
    let of_old = subst (λ (k : KernelView). HasHeard (Hears hears k) old.watch now (aside hosts ∷ [])) grown heard in
    let told = told_more hears old.kernel old.watch now c.self.invariant.1 (set_aside hosts) of_old in
    let Now : KernelView → Type 0 = λ k. IsKept may k old.tallies old.reports.total g.L.Ledger.parts old.rest.parts old.rest.amount old.joined × IsTold hears k now in
    subst Now (sym grown) (kept, told)
