use Rattle.std.proofs.Common.{◌≡◌, ℕ, List, length, flat_map, subst, arith}
use Rattle.std.specs.List.{range_with_len}
use Rattle.bounded_io.specs.Writing.{Writes}
use Rattle.bounded_io.proofs.WritingLemmas.{writes_two}
use Rattle.domains.specs.Numbered.{host_at}
use Rattle.fleet_states.specs.Statuses.{status_at}
use Rattle.recap.proofs.PlanLemmas.{lines_more}
use Rattle.run_diagnosis.specs.Downs.{down_line}
use Rattle.run_diagnosis.specs.Rows.{seen_at}
use Rattle.run_diagnosis.proofs.down.write_down_lines.Goals as goal

pub loop-index-preserved : goal.loop-index-preserved
loop-index-preserved g c =
    let fleet = c.args.fleet.now in
    let several = c.args.several in
    let piece : ℕ → List ℕ = λ host. down_line several (host_at fleet.hosts host) (seen_at c.args.rows.now host) (status_at c.args.statuses.now host) in
    let i : ℕ = c.loop-index.index in
    writes_two _ c.args.text.now c.loop-index.text c.write_line.new.text _ (piece i) _ c.loop-index.invariant
    (rw (c.host_name.ensures, c.row_of-row.ensures, c.status_of.ensures) at c.write_line.ensures) (lines_more piece i)

pub returns : goal.returns
returns g c =
    let fleet = c.args.fleet.now in
    let piece : ℕ → List ℕ = λ host. down_line c.args.several (host_at fleet.hosts host) (seen_at c.args.rows.now host) (status_at c.args.statuses.now host) in
    let all : c.loop-index.index ≡ length fleet.hosts = omega (arith, c.hosts-index-end.ensures.count, c.loop-index.auto.index-end, c.loop-index-test.false) in
    subst (λ (n : ℕ). Writes g.W.Write.contents c.args.text.now c.loop-index.text (flat_map piece (range_with_len 0 n))) all c.loop-index.invariant
