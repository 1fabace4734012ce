use Rattle.std.proofs.Common.{◌≡◌, ℕ, ◌∙◌, List, length, flat_map, ap, subst, arith}
use Rattle.std.specs.List.{range_with_len}
use Rattle.bounded_io.specs.Writing.{Writes}
use Rattle.bounded_io.proofs.WritingLemmas.{writes_two}
use Rattle.domains.specs.Numbered.{host_at}
use Rattle.fleet_states.specs.Statuses.{status_at}
use Rattle.recap.proofs.PlanLemmas.{lines_more}
use Rattle.rehearse.specs.PlainReplies.{status_line}
use Rattle.rehearse.proofs.show.write_statuses.Goals as goal

pub loop-index-preserved : goal.loop-index-preserved
loop-index-preserved g c =
    let fleet = c.args.fleet.now in
    let piece : ℕ → List ℕ = λ host. status_line (host_at fleet.hosts host) (status_at c.args.statuses.now host) in
    let i : ℕ = c.loop-index.index in
    let same : status_line c.host_name.result.now c.status_of.result ≡ piece i =
    ap (λ s. status_line c.host_name.result.now s) c.status_of.ensures ∙ ap (λ n. status_line n (status_at c.args.statuses.now i)) c.host_name.ensures in
    let line = subst (λ (l : List ℕ). Writes g.W.Write.contents c.loop-index.text c.write_status.new.text l) same c.write_status.ensures in
    writes_two _ c.args.text.now c.loop-index.text c.write_status.new.text _ (piece i) _ c.loop-index.invariant line (lines_more piece i)

pub returns : goal.returns
returns g c =
    let piece : ℕ → List ℕ = λ host. status_line (host_at c.args.fleet.now.hosts host) (status_at c.args.statuses.now host) in
    let all : c.loop-index.index ≡ length c.args.fleet.now.hosts = omega (arith, c.hosts-index-end.ensures.count, c.loop-index.auto.index-end, c.loop-index-test.false) in
    subst (λ (n : ℕ). Writes g.W.Write.contents c.args.text.now c.loop-index.text (flat_map piece (range_with_len 0 n))) all c.loop-index.invariant
