use Rattle.std.proofs.Common.{◌≡◌, ◌+◌, ℕ, false, ◌∙◌, length, sym, ap, arith}
use Rattle.std.specs.Prelude.{option_map}
use Rattle.fleet_index.specs.NumberLists.{has_number, list_at}
use Rattle.batch_plan.proofs.FittingLemmas.{holds_more}
use Rattle.rehearse.proofs.StandingLemmas.{first_there, in_none, stands_in}
use Rattle.rehearse.proofs.batch.first_with.Goals as goal

pub returns-then-stands_in : goal.returns-then-stands_in
returns-then-stands_in c =
    let host : ℕ = c.args.host.index in
    let batches = c.args.batches.now in
    let here = ap (has_number host) (sym c.at.ensures) ∙ sym (stands_in host c.at.result.now) ∙ sym c.stands_in.ensures ∙ c.if-stands_in.true in
    sym (ap (option_map (λ (place : ℕ). place + 1)) (first_there host c.loop-place.place batches (omega arith) c.loop-place.invariant here))

pub loop-place-preserved : goal.loop-place-preserved
loop-place-preserved c =
    let host : ℕ = c.args.host.index in
    let batches = c.args.batches.now in
    let here = ap (has_number host) (sym c.at.ensures) ∙ sym (stands_in host c.at.result.now) ∙ sym c.stands_in.ensures ∙ c.if-stands_in.false in
    holds_more (λ (place : ℕ). has_number host (list_at batches place) ≡ false) c.loop-place.place c.loop-place.invariant here

pub returns : goal.returns
returns c =
    let host : ℕ = c.args.host.index in
    let batches = c.args.batches.now in
    let all : c.loop-place.place ≡ length batches = omega (arith, c.len-place-end.ensures, c.loop-place.auto.place-end, c.loop-place-test.false) in
    sym (ap (option_map (λ (place : ℕ). place + 1)) (in_none host batches (λ earlier l. c.loop-place.invariant earlier (omega (arith, l, all)))))
