use Rattle.std.proofs.Common.{◌≡◌, ℕ, List, length, flat_map, ap, subst, arith}
use Rattle.std.specs.List.{range_with_len}
use Rattle.bounded_io.specs.Writing.{Writes}
use Rattle.bounded_io.proofs.WritingLemmas.{writes_two}
use Rattle.fleet_states.specs.Statuses.{status_at}
use Rattle.recap.proofs.PlanLemmas.{lines_more}
use Rattle.journal.specs.Standing.{state_line}
use Rattle.journal.proofs.report.write_lines.Goals as goal

pub loop-index-preserved : goal.loop-index-preserved
loop-index-preserved g c =
    let fleet = c.args.fleet.now in
    let piece : ℕ → List ℕ = λ host. state_line fleet host (status_at c.args.statuses.now host) in
    let i : ℕ = c.loop-index.index in
    let line = subst (λ (l : List ℕ). Writes g.W.Write.contents c.loop-index.text c.write_line.new.text l) (ap (λ s. state_line fleet i s) c.status_of.ensures) c.write_line.ensures in
    writes_two _ c.args.text.now c.loop-index.text c.write_line.new.text _ (piece i) _ c.loop-index.invariant line (lines_more piece i)

pub returns : goal.returns
returns g c =
    let piece : ℕ → List ℕ = λ host. state_line c.args.fleet.now host (status_at c.args.statuses.now host) in
    let all : c.loop-index.index ≡ length c.args.fleet.now.hosts = omega (arith, c.hosts-index-end.ensures.count, c.loop-index.auto.index-end, c.loop-index-test.false) in
    subst (λ (n : ℕ). Writes g.W.Write.contents c.args.text.now c.loop-index.text (flat_map piece (range_with_len 0 n))) all c.loop-index.invariant
