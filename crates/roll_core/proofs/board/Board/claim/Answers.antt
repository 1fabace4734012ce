use Rattle.std.proofs.Common.{Option, rules, sym, subst, refl}
use Rattle.event_log.specs.Events.{claimed}
use Rattle.roll_core.specs.declared.claim.Handed.{Handed}
use Rattle.roll_core.specs.Claims.{IsClaim, IsHandedOut}
use Rattle.roll_core.specs.Views.{KernelView}
use Rattle.roll_core.specs.Boards.{BoardView}
use Rattle.roll_core.specs.Histories.{logs_of}
use Rattle.roll_core.specs.Givings.{IsGiven}
use Rattle.roll_core.specs.Inside.{IsKept}
use Rattle.roll_core.specs.Tellings.{HasHeard, Hears, IsTold, begun_by}
use Rattle.roll_core.proofs.GivingLemmas.{of_no_program}
use Rattle.roll_core.proofs.GrowLemmas.{kept_quiet}
use Rattle.roll_core.proofs.HearLemmas.{claim_told, told_more}
use Rattle.roll_core.proofs.board.Board.claim.Goals as goal

pub given_out-requires : goal.given_out-requires
given_out-requires g c =
    let out : IsHandedOut c.self.inside.kernel c.claim.new.self c.in-Some.handed = subst (λ (o : Option Handed). IsClaim c.self.inside.kernel c.claim.new.self o) c.in-Some.is c.in_ok-handed.ensures.ok in
    (search rules, of_no_program out.host out.step _ c.in-Some.handed out.handed)

pub invariant_of-self-2 : goal.invariant_of-self-2
invariant_of-self-2 g c =
    let out : IsHandedOut c.self.inside.kernel c.claim.new.self c.in-Some.handed = subst (λ (o : Option Handed). IsClaim c.self.inside.kernel c.claim.new.self o) c.in-Some.is c.in_ok-handed.ensures.ok in
    let kept = kept_quiet (g.R.Runner.may c.self.inside.runner.now) c.self.inside.kernel c.self.inside.tallies c.self.inside.reports.total g.L.Ledger.parts c.self.inside.rest.parts c.self.inside.rest.amount c.self.inside.joined c.self.invariant.0 (claimed out.host out.step) tt refl in
    let hears = g.W.Observer.hears in
    let before = c.self.inside.watch in
    let now = c.report_begin.new.watch in
    let heard = subst (λ (k : KernelView). HasHeard (Hears hears k) before now (begun_by c.in-Some.handed)) out.grown c.report_begin.ensures in
    let as_told = subst (HasHeard (Hears hears c.self.inside.kernel) before now) (claim_told c.self.inside.kernel c.claim.new.self c.in-Some.handed out) heard in
    let told = told_more hears c.self.inside.kernel before now c.self.invariant.1 (claimed out.host out.step) as_told in
    let may = g.R.Runner.may c.self.inside.runner.now in
    let rest = c.self.inside.rest in
    let Now : KernelView → Type 0 = λ k. IsKept may k c.self.inside.tallies c.self.inside.reports.total g.L.Ledger.parts rest.parts rest.amount c.self.inside.joined × IsTold hears k now in
    subst Now (sym out.grown) (kept, told)

pub returns-clause-ok : goal.returns-clause-ok
returns-clause-ok g c =
    let view : KernelView → BoardView g.row.R.Denot = λ k. record { kernel = k; context = record { runner = c.self.inside.runner.now; earlier = logs_of c.self.inside.place.logs.items }; tallies = c.self.inside.tallies; joined = c.self.inside.joined } in
    let made : IsGiven (view c.self.inside.kernel) (view c.claim.new.self) c.given_out.result = record {
      handed = c.in-Some.handed;
      claim = subst (λ (o : Option Handed). IsClaim c.self.inside.kernel c.claim.new.self o) c.in-Some.is c.in_ok-handed.ensures.ok;
      as_given = c.given_out.ensures.same;
      rest = refl;
    } in
    subst (λ (v : BoardView g.row.R.Denot). IsGiven v (view c.claim.new.self) c.given_out.result) c.self.view_is made
