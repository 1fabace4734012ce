use Rattle.std.proofs.Common.{sym, subst, refl}
use Rattle.event_log.specs.Events.{passed}
use Rattle.roll_core.specs.Views.{KernelView}
use Rattle.roll_core.specs.Inside.{IsKept}
use Rattle.roll_core.specs.Tellings.{IsTold}
use Rattle.roll_core.proofs.GrowLemmas.{kept_quiet}
use Rattle.roll_core.proofs.HearLemmas.{told_more}
use Rattle.roll_core.proofs.board.Board.barrier.Goals as goal

pub invariant_of-self-2 : goal.invariant_of-self-2
invariant_of-self-2 g c =
    let passes = c.in_ok-next.ensures.ok in
    let kept = kept_quiet (g.R.Runner.may c.self.inside.runner.now) c.self.inside.kernel c.self.inside.tallies c.self.inside.reports.total g.L.Ledger.parts c.self.inside.rest.parts c.self.inside.rest.amount c.self.inside.joined c.self.invariant.0 (passed passes.step) tt refl in
    let told = told_more g.W.Observer.hears c.self.inside.kernel c.self.inside.watch c.self.inside.watch c.self.invariant.1 (passed passes.step) refl in
    let may = g.R.Runner.may c.self.inside.runner.now in
    let rest = c.self.inside.rest in
    let Now : KernelView → Type 0 = λ k. IsKept may k c.self.inside.tallies c.self.inside.reports.total g.L.Ledger.parts rest.parts rest.amount c.self.inside.joined × IsTold g.W.Observer.hears k c.self.inside.watch in
    subst Now (sym passes.grown) (kept, told)
